-- Moves over declarations, assignments, cases and handlers: what a token does to each symbol.
use Rattle.std.proofs.Common.{◌≡◌, ◌<◌, ◌≤◌, ℕ, ◌+◌, ◌==◌, List, ◌∷◌, refl, sym, ap, arith, lit<, Bool, true, false, Some, None, ◌∙◌}
use Rattle.policy_grammar.specs.declared.terminal.Lexeme.{Lexeme}
use Rattle.policy_grammar.specs.declared.limits.Limits.{Limits}
use Rattle.policy_grammar.specs.declared.fault.ParseFault.TheVariants.{Unexpected, Many}
use Rattle.policy_grammar.specs.declared.terminal.Terminal.TheVariants.{Core, Thread, Name, In, Start, On, When, Begin, Finish, Colon, Dot, Gets, Task, Place, Here, Min, Elect, Number, Count, Weight, Range, Comma, Minus, While, Limit}
use Rattle.policy_grammar.specs.declared.terminal.Terminal.TheVariants as terminal
use Rattle.policy_grammar.specs.Words.{attr_word, put_word, event_word}
use Rattle.policy_tree.specs.declared.typed.Put.{Put}
use Rattle.policy_tree.specs.declared.typed.Put.TheVariants as put_is
use Rattle.policy_tree.specs.declared.typed.Event.{Event}
use Rattle.policy_tree.specs.declared.typed.Event.TheVariants as event_is
use Rattle.policy_grammar.specs.Terminals.{code, kind_at, is_word}
use Rattle.policy_grammar.specs.Breaks.{many, of_kind, of_cores_more, of_threads_more}
use Rattle.policy_grammar.specs.Symbols.{Symbol, the, int, load_rule, attrs, handlers, event, case, cases, actions, condition, is_put, is_event, place, place_rule, elect, field, order, batch, unit, ands, ors, operand}
use Rattle.policy_grammar.specs.Machine.{go}
use Rattle.policy_grammar.proofs.Steps.{judged, go-stuck, go-same, go-move}
use Rattle.policy_parser.proofs.Judged.{broken, go-from, isnt, kept, past-many, within-many, word-some}

module _ (limits : Limits) (ts : List Lexeme) (at : ℕ) where
  -- a number with a sign
  pub int-none : (below : List Symbol) → (kind_at ts at == code Number) ≡ false → (kind_at ts at == code Minus) ≡ false → go limits ts at 0 (int ∷ below) ≡ Some (Unexpected at)
  int-none below n m = go-stuck limits ts at 0 (int ∷ below) refl (rw (n, m) refl)

  pub minus-goes : (below : List Symbol) → kind_at ts at ≡ code Minus → go limits ts at 0 (int ∷ below) ≡ go limits ts (at + 1) 0 (the Number ∷ below)
  minus-goes below k =
      go-move limits ts at (code terminal.Minus) 0 0 (int ∷ below) (the Number ∷ below) None k (lit< tt) refl

  -- what a thread adds to the load
  pub count-goes : (below : List Symbol) → kind_at ts at ≡ code Count → go limits ts at 0 (load_rule ∷ below) ≡ go limits ts (at + 1) 0 below
  count-goes below k = go-move limits ts at (code terminal.Count) 0 0 (load_rule ∷ below) below None k (lit< tt) refl

  pub weight-goes : (below : List Symbol) → kind_at ts at ≡ code Weight → go limits ts at 0 (load_rule ∷ below) ≡ go limits ts (at + 1) 0 (int ∷ the Range ∷ int ∷ below)
  weight-goes below k = go-move limits ts at (code terminal.Weight) 0 0 (load_rule ∷ below) _ None k (lit< tt) refl

  pub load-none : (below : List Symbol) → (kind_at ts at == code Count) ≡ false → (kind_at ts at == code Weight) ≡ false → go limits ts at 0 (load_rule ∷ below) ≡ Some (Unexpected at)
  load-none below n m = go-stuck limits ts at 0 (load_rule ∷ below) refl (rw (n, m) refl)

  pub field-goes : (below : List Symbol) → is_word (kind_at ts at) ≡ true → go limits ts at 0 (field ∷ below) ≡ go limits ts (at + 1) 0 below
  field-goes below w = go-move limits ts at (kind_at ts at) 0 0 (field ∷ below) below None refl (word-some (kind_at ts at) w) (rw w refl)

  -- the place rule
  pub place-over : (below : List Symbol) → (kind_at ts at == code Place) ≡ false → go limits ts at 0 (place ∷ below) ≡ go limits ts at 0 below
  place-over below isnt = go-same limits ts at 0 0 (place ∷ below) below refl (rw isnt refl)

  pub place-goes : (below : List Symbol) → kind_at ts at ≡ code Place → go limits ts at 0 (place ∷ below) ≡ go limits ts (at + 1) 0 (place_rule ∷ below)
  place-goes below k =
      go-move limits ts at (code terminal.Place) 0 0 (place ∷ below) (place_rule ∷ below) None k (lit< tt) refl

  pub here-goes : (below : List Symbol) → kind_at ts at ≡ code Place → kind_at ts (at + 1) ≡ code Here → go limits ts at 0 (place ∷ below) ≡ go limits ts (at + 2) 0 below
  here-goes below k h =
      place-goes below k ∙ go-move limits ts (at + 1) (code terminal.Here) 0 0 (place_rule ∷ below) below
      None h (lit< tt) refl
      ∙ go-from limits ts 0 below (let e : at + 1 + 1 ≡ at + 2 = omega arith in e)

  pub least-goes : (below : List Symbol) → kind_at ts at ≡ code Place → kind_at ts (at + 1) ≡ code Min → go limits ts at 0 (place ∷ below) ≡ go limits ts (at + 2) 0 (operand 0 0 0 ∷ below)
  least-goes below k m =
      place-goes below k ∙ go-move limits ts (at + 1) (code terminal.Min) 0 0 (place_rule ∷ below) (operand 0 0 0 ∷ below) None m (lit< tt) refl
      ∙ go-from limits ts 0 (operand 0 0 0 ∷ below) (let e : at + 1 + 1 ≡ at + 2 = omega arith in e)

  pub place-stuck : (below : List Symbol) → kind_at ts at ≡ code Place → (kind_at ts (at + 1) == code Here) ≡ false → (kind_at ts (at + 1) == code Min) ≡ false →
      go limits ts at 0 (place ∷ below) ≡ Some (Unexpected (at + 1))
  place-stuck below k h m = place-goes below k ∙ go-stuck limits ts (at + 1) 0 (place_rule ∷ below) refl (rw (h, m) refl)

  pub elect-over : (below : List Symbol) → (kind_at ts at == code Elect) ≡ false → go limits ts at 0 (elect ∷ below) ≡ go limits ts at 0 below
  elect-over below isnt = go-same limits ts at 0 0 (elect ∷ below) below refl (rw isnt refl)

  pub elect-goes : (below : List Symbol) → kind_at ts at ≡ code Elect → go limits ts at 0 (elect ∷ below) ≡ go limits ts (at + 1) 0 (order limits.keys ∷ below)
  elect-goes below k =
      go-move limits ts at (code terminal.Elect) 0 0 (elect ∷ below) (order limits.keys ∷ below) None k (lit< tt) refl

  -- the batch
  pub batch-over : (below : List Symbol) → (kind_at ts at == code While) ≡ false → go limits ts at 0 (batch ∷ below) ≡ go limits ts at 0 below
  batch-over below isnt = go-same limits ts at 0 0 (batch ∷ below) below refl (rw isnt refl)

  pub batch-goes : (below : List Symbol) → kind_at ts at ≡ code While →
      go limits ts at 0 (batch ∷ below) ≡ go limits ts (at + 1) 0 (unit limits.comparisons 0 ∷ ands limits.comparisons 0 ∷ ors limits.comparisons 0 ∷ the Limit ∷ the Number ∷ below)
  batch-goes below k =
      go-move limits ts at (code terminal.While) 0 0 (batch ∷ below) (condition limits.comparisons ∷ the Limit ∷ the Number ∷ below) None k (lit< tt) refl
      ∙ go-same limits ts (at + 1) 0 0 (condition limits.comparisons ∷ the Limit ∷ the Number ∷ below) (unit limits.comparisons 0 ∷ ands limits.comparisons 0 ∷ ors limits.comparisons 0 ∷ the Limit ∷ the Number ∷ below) refl refl

  -- attributes
  attr-move : (cores threads : ℕ) (below : List Symbol) (of_cores : Bool) → kind_at ts at ≡ attr_word of_cores →
      go limits ts at 0 (attrs cores threads ∷ below)
      ≡ judged (many limits.attrs at (of_kind of_cores cores threads))
      (go limits ts (at + 1) 0 (the Name ∷ the In ∷ int ∷ the Range ∷ int ∷ the Start ∷ int ∷ attrs (of_cores_more of_cores cores) (of_threads_more of_cores threads) ∷ below))
  attr-move cores threads below true k = go-move limits ts at (code terminal.Core) 0 0 (attrs cores threads ∷ below) _ (many limits.attrs at cores) k (lit< tt) refl
  attr-move cores threads below false k = go-move limits ts at (code terminal.Thread) 0 0 (attrs cores threads ∷ below) _ (many limits.attrs at threads) k (lit< tt) refl

  pub attr-goes : (cores threads count : ℕ) (below : List Symbol) (of_cores : Bool) → kind_at ts at ≡ attr_word of_cores → count ≡ of_kind of_cores cores threads → count < limits.attrs →
      go limits ts at 0 (attrs cores threads ∷ below)
      ≡ go limits ts (at + 1) 0 (the Name ∷ the In ∷ int ∷ the Range ∷ int ∷ the Start ∷ int ∷ attrs (of_cores_more of_cores cores) (of_threads_more of_cores threads) ∷ below)
  attr-goes cores threads count below of_cores k e few = kept _ (attr-move cores threads below of_cores k) (ap (many limits.attrs at) (sym e) ∙ within-many limits.attrs at count few)

  pub attr-many : (cores threads count : ℕ) (below : List Symbol) (of_cores : Bool) → kind_at ts at ≡ attr_word of_cores → count ≡ of_kind of_cores cores threads → limits.attrs ≤ count →
      go limits ts at 0 (attrs cores threads ∷ below) ≡ Some (Many at limits.attrs)
  attr-many cores threads count below of_cores k e most = broken _ (attr-move cores threads below of_cores k) (ap (many limits.attrs at) (sym e) ∙ past-many limits.attrs at count most)

  pub attrs-over : (cores threads : ℕ) (below : List Symbol) → (kind_at ts at == code Core) ≡ false → (kind_at ts at == code Thread) ≡ false →
      go limits ts at 0 (attrs cores threads ∷ below) ≡ go limits ts at 0 below
  attrs-over cores threads below c t = go-same limits ts at 0 0 (attrs cores threads ∷ below) below refl (rw (c, t) refl)

  -- assignments of a case, and where the thread is put
  set-move : (before : ℕ) (below : List Symbol) → kind_at ts at ≡ code Task →
      go limits ts at 0 (actions before ∷ below)
      ≡ judged (many limits.sets at before) (go limits ts (at + 1) 0 (the Dot ∷ field ∷ the Gets ∷ operand 0 0 0 ∷ the Comma ∷ actions (before + 1) ∷ below))
  set-move before below k = go-move limits ts at (code terminal.Task) 0 0 (actions before ∷ below) _ (many limits.sets at before) k (lit< tt) refl

  pub set-goes : (before : ℕ) (below : List Symbol) → kind_at ts at ≡ code Task → before < limits.sets →
      go limits ts at 0 (actions before ∷ below) ≡ go limits ts (at + 1) 0 (the Dot ∷ field ∷ the Gets ∷ operand 0 0 0 ∷ the Comma ∷ actions (before + 1) ∷ below)
  set-goes before below k few = kept _ (set-move before below k) (within-many limits.sets at before few)

  pub set-many : (before : ℕ) (below : List Symbol) → kind_at ts at ≡ code Task → limits.sets ≤ before → go limits ts at 0 (actions before ∷ below) ≡ Some (Many at limits.sets)
  set-many before below k most = broken _ (set-move before below k) (past-many limits.sets at before most)

  pub put-goes : (before : ℕ) (below : List Symbol) (p : Put) → kind_at ts at ≡ put_word p → go limits ts at 0 (actions before ∷ below) ≡ go limits ts (at + 1) 0 below
  put-goes before below put_is.Queue k = go-move limits ts at (code terminal.Queue) 0 0 (actions before ∷ below) below None k (lit< tt) refl
  put-goes before below put_is.Keep k =
      go-move limits ts at (code terminal.Keep) 0 0 (actions before ∷ below) below None k (lit< tt) refl
  put-goes before below put_is.Block k = go-move limits ts at (code terminal.Block) 0 0 (actions before ∷ below) below None k (lit< tt) refl

  pub put-none : (before : ℕ) (below : List Symbol) → (kind_at ts at == code Task) ≡ false → is_put (kind_at ts at) ≡ false → go limits ts at 0 (actions before ∷ below) ≡ Some (Unexpected at)
  put-none before below t p = go-stuck limits ts at 0 (actions before ∷ below) refl (rw (t, p) refl)

  -- cases
  case-move : (before : ℕ) (below : List Symbol) → kind_at ts at ≡ code When →
      go limits ts at 0 (case before ∷ below) ≡ judged (many limits.cases at before) (go limits ts (at + 1) 0 (condition limits.comparisons ∷ the Colon ∷ actions 0 ∷ cases (before + 1) ∷ below))
  case-move before below k = go-move limits ts at (code terminal.When) 0 0 (case before ∷ below) _ (many limits.cases at before) k (lit< tt) refl

  pub case-goes : (before : ℕ) (below : List Symbol) → kind_at ts at ≡ code When → before < limits.cases →
      go limits ts at 0 (case before ∷ below) ≡ go limits ts (at + 1) 0 (unit limits.comparisons 0 ∷ ands limits.comparisons 0 ∷ ors limits.comparisons 0 ∷ the Colon ∷ actions 0 ∷ cases (before + 1) ∷ below)
  case-goes before below k few =
      kept _ (case-move before below k) (within-many limits.cases at before few)
      ∙ go-same limits ts (at + 1) 0 0 (condition limits.comparisons ∷ the Colon ∷ actions 0 ∷ cases (before + 1) ∷ below) (unit limits.comparisons 0 ∷ ands limits.comparisons 0 ∷ ors limits.comparisons 0 ∷ the Colon ∷ actions 0 ∷ cases (before + 1) ∷ below) refl refl

  pub case-many : (before : ℕ) (below : List Symbol) → kind_at ts at ≡ code When → limits.cases ≤ before → go limits ts at 0 (case before ∷ below) ≡ Some (Many at limits.cases)
  case-many before below k most = broken _ (case-move before below k) (past-many limits.cases at before most)

  pub case-none : (before : ℕ) (below : List Symbol) → (kind_at ts at == code When) ≡ false → go limits ts at 0 (case before ∷ below) ≡ Some (Unexpected at)
  case-none before below isnt = go-stuck limits ts at 0 (case before ∷ below) refl (rw isnt refl)

  pub cases-case : (before : ℕ) (below : List Symbol) → kind_at ts at ≡ code When → go limits ts at 0 (cases before ∷ below) ≡ go limits ts at 0 (case before ∷ below)
  cases-case before below k =
      go-move limits ts at (code terminal.When) 0 0 (cases before ∷ below) (condition limits.comparisons ∷ the Colon ∷ actions 0 ∷ cases (before + 1) ∷ below) (many limits.cases at before) k (lit< tt) refl ∙ sym (case-move before below k)

  pub cases-over : (before : ℕ) (below : List Symbol) → (kind_at ts at == code When) ≡ false → go limits ts at 0 (cases before ∷ below) ≡ go limits ts at 0 below
  cases-over before below isnt = go-same limits ts at 0 0 (cases before ∷ below) below refl (rw isnt refl)

  -- handlers
  pub handler-goes : (below : List Symbol) → kind_at ts at ≡ code On →
      go limits ts at 0 (handlers ∷ below) ≡ go limits ts (at + 1) 0 (event ∷ the Begin ∷ case 0 ∷ the Finish ∷ handlers ∷ below)
  handler-goes below k = go-move limits ts at (code terminal.On) 0 0 (handlers ∷ below) _ None k (lit< tt) refl

  pub handlers-over : (below : List Symbol) → (kind_at ts at == code On) ≡ false → go limits ts at 0 (handlers ∷ below) ≡ go limits ts at 0 below
  handlers-over below isnt = go-same limits ts at 0 0 (handlers ∷ below) below refl (rw isnt refl)

  pub event-goes : (below : List Symbol) (e : Event) → kind_at ts at ≡ event_word e → go limits ts at 0 (event ∷ below) ≡ go limits ts (at + 1) 0 below
  event-goes below event_is.Enqueue k =
      go-move limits ts at (code terminal.Enqueue) 0 0 (event ∷ below) below None k (lit< tt) refl
  event-goes below event_is.Tick k =
      go-move limits ts at (code terminal.Tick) 0 0 (event ∷ below) below None k (lit< tt) refl
  event-goes below event_is.Yield k =
      go-move limits ts at (code terminal.Yield) 0 0 (event ∷ below) below None k (lit< tt) refl
  event-goes below event_is.Block k =
      go-move limits ts at (code terminal.Block) 0 0 (event ∷ below) below None k (lit< tt) refl

  pub event-none : (below : List Symbol) → is_event (kind_at ts at) ≡ false → go limits ts at 0 (event ∷ below) ≡ Some (Unexpected at)
  event-none below isnt = go-stuck limits ts at 0 (event ∷ below) refl (rw isnt refl)
  -- a whole condition

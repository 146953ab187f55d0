-- What the grammar has is read, up to the first limit that its tree passes: policies.
use Rattle.std.proofs.Common.{◌≡◌, ◌<◌, ℕ, ◌+◌, ◌==◌, List, [], ◌∷◌, length, refl, sym, ap, arith, lit<, Bool, true, false, Option, Some, None, ◌∙◌}
use Rattle.std.proofs.lemmas.Bool.Decides.{nat_tests}
use Rattle.policy_tree.specs.declared.typed.Event.{Event}
use Rattle.policy_tree.specs.declared.typed.Event.TheVariants as event_is
use Rattle.policy_tree.specs.declared.typed.Put.{Put}
use Rattle.policy_tree.specs.declared.typed.Put.TheVariants as put_is
use Rattle.policy_syntax.specs.declared.syntax.LoadSyntax.{LoadSyntax}
use Rattle.policy_syntax.specs.declared.syntax.AttrSyntax.{AttrSyntax}
use Rattle.policy_syntax.specs.declared.syntax.PlaceSyntax.{PlaceSyntax}
use Rattle.policy_syntax.specs.declared.syntax.SetSyntax.{SetSyntax}
use Rattle.policy_syntax.specs.SyntaxTrees.{OrderSyntaxTree, ElectSyntaxTree, BatchSyntaxTree, CaseSyntaxTree, HandlerSyntaxTree, SyntaxTree}
use Rattle.policy_grammar.specs.declared.terminal.Lexeme.{Lexeme}
use Rattle.policy_grammar.specs.declared.terminal.Terminal.TheVariants.{Policy, Load, In, Start, Choose, Steal, When, Filter, Limit, Name, Number, Dot, Comma, Colon, Begin, Finish, Gets, Range}
use Rattle.policy_grammar.specs.declared.terminal.Terminal.TheVariants as terminal
use Rattle.policy_grammar.specs.declared.limits.Limits.{Limits}
use Rattle.policy_grammar.specs.declared.fault.ParseFault.{ParseFault}
use Rattle.policy_grammar.specs.Terminals.{code, kind_at, is_word}
use Rattle.policy_grammar.specs.Words.{attr_word, event_word, put_word}
use Rattle.policy_grammar.specs.Policies.{IsLoad, load_count, load_weight, IsAttr, attr_of, IsAttrs, attrs_none, attrs_more, IsPlace, place_none, place_here, place_least, IsElect, elect_none, elect_some, IsBatch, batch_none, batch_some, IsSets, sets_none, sets_more, IsCase, case_of, IsCases, cases_none, cases_more, IsHandler, handler_of, IsHandlers, handlers_none, handlers_more, IsPolicy, policy_of}
use Rattle.policy_grammar.specs.Orders.{IsOrder}
use Rattle.policy_grammar.specs.Breaks.{many, first_of, breaks_expr, breaks_condition, breaks_sets, breaks_cases, breaks_handlers, of_cores_more, of_threads_more, of_kind, breaks_attrs, breaks_place, breaks_elect, breaks_order, breaks_batch, breaks_policy, comparisons}
use Rattle.policy_grammar.specs.Symbols.{Symbol, the, load_rule, int, attrs, place, place_rule, elect, handlers, event, case, cases, actions, field, order, batch, condition, operand}
use Rattle.policy_grammar.specs.Machine.{go, start}
use Rattle.policy_grammar.proofs.Steps.{judged, judged-first, go-move, go-same, is-zero}
use Rattle.policy_grammar.proofs.CompleteExpressions.{NoOperator, the-read, int_read, range_read, expr_read, go-at}
use Rattle.policy_grammar.proofs.CompleteConditions.{no_operator-by, no_or-by, whole_read}
use Rattle.policy_grammar.proofs.CompleteOrders.{NoKey, order_read}
use Rattle.policy_grammar.proofs.Standing.{From, elect-from, filter-from, from-no_key, from-no_operator, from-past, handlers-from, kind-end, no_key-by, place-from}

judged-none : (o : Option ParseFault) → judged o None ≡ o
judged-none None = refl
judged-none (Some f) = refl

module _ (limits : Limits) (text : List ℕ) (ts : List Lexeme) where
  next : (at count : ℕ) (stack : List Symbol) (n : ℕ) → at + 1 ≡ n → go limits ts (at + 1) count stack ≡ go limits ts n count stack
  next at count stack n e = go-at limits text ts count stack e

  pub load_read : {at to : ℕ} {v : LoadSyntax} → IsLoad ts at v to → (below : List Symbol) →
      go limits ts at 0 (the Load ∷ load_rule ∷ below) ≡ go limits ts to 0 below
  load_read {at = at} (load_count k c) below =
      the-read limits text ts at 0 (load_rule ∷ below) Load k (lit< tt) refl
      ∙ go-move limits ts (at + 1) (code terminal.Count) 0 0 (load_rule ∷ below) below None c (lit< tt) refl
      ∙ next (at + 1) 0 below (at + 2) (omega arith)
  load_read {at = at} (load_weight k w d) below =
      the-read limits text ts at 0 (load_rule ∷ below) Load k (lit< tt) refl
      ∙ go-move limits ts (at + 1) (code terminal.Weight) 0 0 (load_rule ∷ below) _ None w (lit< tt) refl
      ∙ next (at + 1) 0 _ (at + 2) (omega arith)
      ∙ range_read limits text ts d below

  attr-starts : (at cores threads : ℕ) (below : List Symbol) (of_cores : Bool) → kind_at ts at ≡ attr_word of_cores →
      go limits ts at 0 (attrs cores threads ∷ below)
      ≡ judged (many limits.attrs at (of_kind of_cores cores threads))
      (go limits ts (at + 1) 0 (the Name ∷ the In ∷ int ∷ the Range ∷ int ∷ the Start ∷ int ∷ attrs (of_cores_more of_cores cores) (of_threads_more of_cores threads) ∷ below))
  attr-starts at cores threads below true k = go-move limits ts at (code terminal.Core) 0 0 (attrs cores threads ∷ below) _ (many limits.attrs at cores) k (lit< tt) refl
  attr-starts at cores threads below false k = go-move limits ts at (code terminal.Thread) 0 0 (attrs cores threads ∷ below) _ (many limits.attrs at threads) k (lit< tt) refl

  pub attr_read : {at to : ℕ} {a : AttrSyntax} → IsAttr text ts at a to → (cores threads : ℕ) (below : List Symbol) →
      go limits ts at 0 (attrs cores threads ∷ below)
      ≡ judged (many limits.attrs a.at (of_kind a.of_cores cores threads))
      (go limits ts to 0 (attrs (of_cores_more a.of_cores cores) (of_threads_more a.of_cores threads) ∷ below))
  attr_read {at = at} (attr_of {mid = mid} of_cores k n i r s d) cores threads below =
      let rest = attrs (of_cores_more of_cores cores) (of_threads_more of_cores threads) ∷ below in
      attr-starts at cores threads below of_cores k
      ∙ ap (judged (many limits.attrs at (of_kind of_cores cores threads)))
      (the-read limits text ts (at + 1) 0 (the In ∷ int ∷ the Range ∷ int ∷ the Start ∷ int ∷ rest) Name n (lit< tt) refl
      ∙ next (at + 1) 0 _ (at + 2) (omega arith)
      ∙ the-read limits text ts (at + 2) 0 (int ∷ the Range ∷ int ∷ the Start ∷ int ∷ rest) In i (lit< tt) refl
      ∙ next (at + 2) 0 _ (at + 3) (omega arith)
      ∙ range_read limits text ts r (the Start ∷ int ∷ rest)
      ∙ the-read limits text ts mid 0 (int ∷ rest) Start s (lit< tt) refl
      ∙ int_read limits text ts d rest)

  pub attrs_read : {at to : ℕ} {us : List AttrSyntax} → IsAttrs text ts at us to → From (code terminal.Place) ts to → (cores threads : ℕ) (below : List Symbol) →
      go limits ts at 0 (attrs cores threads ∷ below) ≡ judged (breaks_attrs limits cores threads us) (go limits ts to 0 below)
  attrs_read {at = at} attrs_none f cores threads below =
      go-same limits ts at 0 0 (attrs cores threads ∷ below) below refl (rw (from-past (code terminal.Core) (omega arith) f, from-past (code terminal.Thread) (omega arith) f) refl)
  attrs_read (attrs_more {a = a} d more) f cores threads below =
      attr_read d cores threads below
      ∙ ap (judged (many limits.attrs a.at (of_kind a.of_cores cores threads))) (attrs_read more f _ _ below)
      ∙ sym (judged-first (many limits.attrs a.at (of_kind a.of_cores cores threads)) _ _)

  pub place_read : {at to : ℕ} {p : Option PlaceSyntax} → IsPlace text ts at p to → From (code terminal.Elect) ts to → (below : List Symbol) →
      go limits ts at 0 (place ∷ below) ≡ judged (breaks_place limits p) (go limits ts to 0 below)
  place_read {at = at} place_none f below = go-same limits ts at 0 0 (place ∷ below) below refl (rw (from-past (code terminal.Place) (omega arith) f) refl)
  place_read {at = at} (place_here k h) f below =
      go-move limits ts at (code terminal.Place) 0 0 (place ∷ below) (place_rule ∷ below) None k (lit< tt) refl
      ∙ go-move limits ts (at + 1) (code terminal.Here) 0 0 (place_rule ∷ below) below None h (lit< tt) refl
      ∙ next (at + 1) 0 below (at + 2) (omega arith)
  place_read {at = at} (place_least k m d) f below =
      go-move limits ts at (code terminal.Place) 0 0 (place ∷ below) (place_rule ∷ below) None k (lit< tt) refl
      ∙ go-move limits ts (at + 1) (code terminal.Min) 0 0 (place_rule ∷ below) (operand 0 0 0 ∷ below)
      None m (lit< tt) refl
      ∙ next (at + 1) 0 _ (at + 2) (omega arith)
      ∙ expr_read limits text ts d (from-no_operator f) 0 0 below

  pub elect_read : {at to : ℕ} {e : Option ElectSyntaxTree} → IsElect text ts at e to → From (code terminal.On) ts to → (below : List Symbol) →
      go limits ts at 0 (elect ∷ below) ≡ judged (breaks_elect limits e) (go limits ts to 0 below)
  elect_read {at = at} elect_none f below = go-same limits ts at 0 0 (elect ∷ below) below refl (rw (from-past (code terminal.Elect) (omega arith) f) refl)
  elect_read {at = at} (elect_some k d) f below =
      go-move limits ts at (code terminal.Elect) 0 0 (elect ∷ below) (order limits.keys ∷ below) None k (lit< tt) refl
      ∙ order_read limits text ts d (from-no_key f) limits.keys below

  put-read : (at before : ℕ) (below : List Symbol) (p : Put) → kind_at ts at ≡ put_word p →
      go limits ts at 0 (actions before ∷ below) ≡ go limits ts (at + 1) 0 below
  put-read at before below put_is.Queue k = go-move limits ts at (code terminal.Queue) 0 0 (actions before ∷ below) below None k (lit< tt) refl
  put-read at before below put_is.Keep k = go-move limits ts at (code terminal.Keep) 0 0 (actions before ∷ below) below None k (lit< tt) refl
  put-read at before below put_is.Block k = go-move limits ts at (code terminal.Block) 0 0 (actions before ∷ below) below None k (lit< tt) refl

  word-some : (kind : ℕ) → is_word kind ≡ true → 0 < kind
  word-some kind e = grind (arith, nat_tests)

  comma-stops : (at : ℕ) → kind_at ts at ≡ code Comma → NoOperator ts at
  comma-stops at k = no_operator-by ts at (code terminal.Comma) k refl refl refl

  pub actions_read : {at last : ℕ} {ss : List SetSyntax} → IsSets text ts at ss last → (p : Put) → kind_at ts last ≡ put_word p →
      (before : ℕ) (below : List Symbol) →
      go limits ts at 0 (actions before ∷ below) ≡ judged (breaks_sets limits before ss) (go limits ts (last + 1) 0 below)
  actions_read {at = at} sets_none p k before below = put-read at before below p k
  actions_read {at = at} (sets_more {mid = mid} {v = v} t d w g e c more) p k before below =
      go-move limits ts at (code terminal.Task) 0 0 (actions before ∷ below) _ (many limits.sets at before)
      t (lit< tt) refl
      ∙ ap (judged (many limits.sets at before))
      (the-read limits text ts (at + 1) 0 (field ∷ the Gets ∷ operand 0 0 0 ∷ the Comma ∷ actions (before + 1) ∷ below) Dot d (lit< tt) refl
      ∙ next (at + 1) 0 _ (at + 2) (omega arith)
      ∙ go-move limits ts (at + 2) (kind_at ts (at + 2)) 0 0 (field ∷ the Gets ∷ operand 0 0 0 ∷ the Comma ∷ actions (before + 1) ∷ below) _ None refl
      (word-some (kind_at ts (at + 2)) w) (rw w refl)
      ∙ next (at + 2) 0 _ (at + 3) (omega arith)
      ∙ the-read limits text ts (at + 3) 0 (operand 0 0 0 ∷ the Comma ∷ actions (before + 1) ∷ below) Gets g (lit< tt) refl
      ∙ next (at + 3) 0 _ (at + 4) (omega arith)
      ∙ expr_read limits text ts e (comma-stops mid c) 0 0 (the Comma ∷ actions (before + 1) ∷ below)
      ∙ ap (judged (breaks_expr limits 0 v))
      (the-read limits text ts mid 0 (actions (before + 1) ∷ below) Comma c (lit< tt) refl
      ∙ actions_read more p k (before + 1) below)
      ∙ sym (judged-first (breaks_expr limits 0 v) _ _))
      ∙ sym (judged-first (many limits.sets at before) _ _)

  case-body : {at to : ℕ} {c : CaseSyntaxTree} → IsCase text ts at c to → (below : List Symbol) →
      go limits ts (at + 1) 0 (condition limits.comparisons ∷ the Colon ∷ actions 0 ∷ below)
      ≡ judged (breaks_condition limits limits.comparisons 0 0 c.guard) (judged (breaks_sets limits 0 c.sets) (go limits ts to 0 below))
  case-body (case_of {mid = mid} {guard = guard} p k g c sets q) below =
      whole_read limits text ts g (no_or-by ts mid (code terminal.Colon) c refl refl refl refl refl)
      limits.comparisons (the Colon ∷ actions 0 ∷ below)
      ∙ ap (judged (breaks_condition limits limits.comparisons 0 0 guard))
      (the-read limits text ts mid (comparisons guard) (actions 0 ∷ below) Colon c (lit< tt) refl
      ∙ actions_read sets p q 0 below)

  case-when : {at to : ℕ} {c : CaseSyntaxTree} → IsCase text ts at c to → (before : ℕ) (below : List Symbol) →
      go limits ts at 0 (case before ∷ below)
      ≡ judged (many limits.cases c.at before) (go limits ts (at + 1) 0 (condition limits.comparisons ∷ the Colon ∷ actions 0 ∷ cases (before + 1) ∷ below))
  case-when {at = at} (case_of p k g c sets q) before below =
      go-move limits ts at (code terminal.When) 0 0 (case before ∷ below) _ (many limits.cases at before)
      k (lit< tt) refl

  cases-when : {at to : ℕ} {c : CaseSyntaxTree} → IsCase text ts at c to → (before : ℕ) (below : List Symbol) →
      go limits ts at 0 (cases before ∷ below)
      ≡ judged (many limits.cases c.at before) (go limits ts (at + 1) 0 (condition limits.comparisons ∷ the Colon ∷ actions 0 ∷ cases (before + 1) ∷ below))
  cases-when {at = at} (case_of p k g c sets q) before below =
      go-move limits ts at (code terminal.When) 0 0 (cases before ∷ below) _ (many limits.cases at before)
      k (lit< tt) refl

  joined : (a b c d : Option ParseFault) (r : Option ParseFault) →
      judged a (judged b (judged c (judged d r))) ≡ judged (first_of a (first_of b (first_of c d))) r
  joined None None None d r = refl
  joined None None (Some f) d r = refl
  joined None (Some f) c d r = refl
  joined (Some f) b c d r = refl

  pub cases_read : {at to : ℕ} {cs : List CaseSyntaxTree} → IsCases text ts at cs to → (kind_at ts to == code When) ≡ false →
      (before : ℕ) (below : List Symbol) →
      go limits ts at 0 (cases before ∷ below) ≡ judged (breaks_cases limits before cs) (go limits ts to 0 below)
  cases_read {at = at} cases_none n before below = go-same limits ts at 0 0 (cases before ∷ below) below refl (rw n refl)
  cases_read (cases_more {c = c} d more) n before below =
      cases-when d before below
      ∙ ap (judged (many limits.cases c.at before))
      (case-body d (cases (before + 1) ∷ below)
      ∙ ap (λ r. judged (breaks_condition limits limits.comparisons 0 0 c.guard) (judged (breaks_sets limits 0 c.sets) r)) (cases_read more n (before + 1) below))
      ∙ joined (many limits.cases c.at before) (breaks_condition limits limits.comparisons 0 0 c.guard) (breaks_sets limits 0 c.sets) _ _

  event-read : (at : ℕ) (below : List Symbol) (e : Event) → kind_at ts at ≡ event_word e → go limits ts at 0 (event ∷ below) ≡ go limits ts (at + 1) 0 below
  event-read at below event_is.Enqueue k =
      go-move limits ts at (code terminal.Enqueue) 0 0 (event ∷ below) below None k (lit< tt) refl
  event-read at below event_is.Tick k =
      go-move limits ts at (code terminal.Tick) 0 0 (event ∷ below) below None k (lit< tt) refl
  event-read at below event_is.Yield k =
      go-move limits ts at (code terminal.Yield) 0 0 (event ∷ below) below None k (lit< tt) refl
  event-read at below event_is.Block k =
      go-move limits ts at (code terminal.Block) 0 0 (event ∷ below) below None k (lit< tt) refl

  pub handler_read : {at to : ℕ} {h : HandlerSyntaxTree} → IsHandler text ts at h to → (below : List Symbol) →
      go limits ts at 0 (handlers ∷ below) ≡ judged (breaks_cases limits 0 h.cases) (go limits ts to 0 (handlers ∷ below))
  handler_read {at = at} (handler_of {last = last} e {c = c} k v b d more f) below =
      let rest = the Finish ∷ handlers ∷ below in
      go-move limits ts at (code terminal.On) 0 0 (handlers ∷ below) (event ∷ the Begin ∷ case 0 ∷ rest)
      None k (lit< tt) refl
      ∙ event-read (at + 1) (the Begin ∷ case 0 ∷ rest) e v
      ∙ next (at + 1) 0 _ (at + 2) (omega arith)
      ∙ the-read limits text ts (at + 2) 0 (case 0 ∷ rest) Begin b (lit< tt) refl
      ∙ next (at + 2) 0 _ (at + 3) (omega arith)
      ∙ case-when d 0 rest
      ∙ ap (judged (many limits.cases c.at 0))
      (case-body d (cases 1 ∷ rest)
      ∙ ap (λ r. judged (breaks_condition limits limits.comparisons 0 0 c.guard) (judged (breaks_sets limits 0 c.sets) r)) (cases_read more (rw f refl) 1 rest))
      ∙ joined (many limits.cases c.at 0) (breaks_condition limits limits.comparisons 0 0 c.guard) (breaks_sets limits 0 c.sets) _ _
      ∙ ap (judged (breaks_cases limits 0 (c ∷ _))) (the-read limits text ts last 0 (handlers ∷ below) Finish f (lit< tt) refl)

  pub handlers_read : {at to : ℕ} {hs : List HandlerSyntaxTree} → IsHandlers text ts at hs to → From (code terminal.Level) ts to → (below : List Symbol) →
      go limits ts at 0 (handlers ∷ below) ≡ judged (breaks_handlers limits hs) (go limits ts to 0 below)
  handlers_read {at = at} handlers_none f below = go-same limits ts at 0 0 (handlers ∷ below) below refl (rw (from-past (code terminal.On) (omega arith) f) refl)
  handlers_read (handlers_more {h = h} d more) f below =
      handler_read d below
      ∙ ap (judged (breaks_cases limits 0 h.cases)) (handlers_read more f below)
      ∙ sym (judged-first (breaks_cases limits 0 h.cases) _ _)

pub batch-no_key : {text : List ℕ} {ts : List Lexeme} {at to : ℕ} {b : Option BatchSyntaxTree} → IsBatch text ts at b to → kind_at ts to ≡ 0 → NoKey ts at
batch-no_key {ts = ts} {at = at} batch_none k = no_key-by ts at 0 k refl refl refl refl refl refl
batch-no_key {ts = ts} {at = at} (batch_some w d l n) k = no_key-by ts at (code terminal.While) w refl refl refl refl refl refl

module _ (limits : Limits) (text : List ℕ) (ts : List Lexeme) where
  pub batch_read : {at to : ℕ} {b : Option BatchSyntaxTree} → IsBatch text ts at b to → kind_at ts to ≡ 0 → (below : List Symbol) →
      go limits ts at 0 (batch ∷ below) ≡ judged (breaks_batch limits b) (go limits ts to 0 below)
  batch_read {at = at} batch_none k below = go-same limits ts at 0 0 (batch ∷ below) below refl (rw k refl)
  batch_read {at = at} (batch_some {mid = mid} {condition = c} w d l n) k below =
      go-move limits ts at (code terminal.While) 0 0 (batch ∷ below) (condition limits.comparisons ∷ the Limit ∷ the Number ∷ below) None w (lit< tt) refl
      ∙ whole_read limits text ts d (no_or-by ts mid (code terminal.Limit) l refl refl refl refl refl) limits.comparisons (the Limit ∷ the Number ∷ below)
      ∙ ap (judged (breaks_condition limits limits.comparisons 0 0 c))
      (the-read limits text ts mid (comparisons c) (the Number ∷ below) Limit l (lit< tt) refl
      ∙ the-read limits text ts (mid + 1) 0 below Number n (lit< tt) refl
      ∙ go-at limits text ts 0 below (let e : mid + 1 + 1 ≡ mid + 2 = omega arith in e))

pub judged-is : (o : Option ParseFault) {r x : Option ParseFault} → r ≡ x → judged o r ≡ first_of o x
judged-is None e = e
judged-is (Some f) e = refl

module _ (limits : Limits) (text : List ℕ) (ts : List Lexeme) where
  -- all that stands before the filter, or before the levels
  pub front_read : {at_attrs at_place at_elect at_handlers to : ℕ} {l : LoadSyntax} {us : List AttrSyntax} {p : Option PlaceSyntax}
      {e : Option ElectSyntaxTree} {hs : List HandlerSyntaxTree} →
      IsLoad ts 2 l at_attrs → IsAttrs text ts at_attrs us at_place → IsPlace text ts at_place p at_elect →
      IsElect text ts at_elect e at_handlers → IsHandlers text ts at_handlers hs to → From (code terminal.Level) ts to → (below : List Symbol) →
      go limits ts 2 0 (the Load ∷ load_rule ∷ attrs 0 0 ∷ place ∷ elect ∷ handlers ∷ below)
      ≡ judged (breaks_attrs limits 0 0 us) (judged (breaks_place limits p) (judged (breaks_elect limits e) (judged (breaks_handlers limits hs) (go limits ts to 0 below))))
  front_read {us = us} {p = p} {e = e} dl da dp de dh f below =
      let fh = handlers-from dh f in
      let fe = elect-from de fh in
      load_read limits text ts dl _
      ∙ attrs_read limits text ts da (place-from dp fe) 0 0 _
      ∙ ap (judged (breaks_attrs limits 0 0 us)) (place_read limits text ts dp fe _
      ∙ ap (judged (breaks_place limits p)) (elect_read limits text ts de fh _
      ∙ ap (judged (breaks_elect limits e)) (handlers_read limits text ts dh f below)))

  -- the orders and the batch, behind which nothing stands
  pub choices_read : (at_choose : ℕ) {at_steal at_batch : ℕ} {c s : OrderSyntaxTree} {b : Option BatchSyntaxTree} → kind_at ts at_choose ≡ code Choose →
      IsOrder text ts (at_choose + 1) c at_steal → kind_at ts at_steal ≡ code Steal → IsOrder text ts (at_steal + 1) s at_batch →
      IsBatch text ts at_batch b (length ts) → (count most : ℕ) →
      go limits ts at_choose count (the Choose ∷ order most ∷ the Steal ∷ order limits.keys ∷ batch ∷ [])
      ≡ first_of (breaks_order limits most c) (first_of (breaks_order limits limits.keys s) (breaks_batch limits b))
  choices_read at_choose {at_steal = at_steal} kc dc ks ds db count most =
      let none = kind-end ts in
      the-read limits text ts at_choose count _ Choose kc (lit< tt) refl
      ∙ order_read limits text ts dc (no_key-by ts at_steal (code terminal.Steal) ks refl refl refl refl refl refl) most _
      ∙ judged-is _ (the-read limits text ts at_steal 0 _ Steal ks (lit< tt) refl
      ∙ order_read limits text ts ds (batch-no_key db none) limits.keys _
      ∙ judged-is _ (batch_read limits text ts db none []
      ∙ ap (judged _) (is-zero limits ts (length ts) refl 0 [] refl)
      ∙ judged-none _))

-- the tokens of a policy are read to their end, up to the first limit that it passes
pub policy_read : (limits : Limits) (text : List ℕ) (ts : List Lexeme) {s : SyntaxTree} → IsPolicy text ts s →
    go limits ts 0 0 (start limits) ≡ breaks_policy limits s
policy_read limits text ts
    (policy_of {at_filter = at_filter} {at_choose = at_choose} {attrs = us} {place = p} {elect = e} {handlers = hs} {filter = filter} k0 k1 dl da dp de dh kf df kc dc ks ds db) =
    the-read limits text ts 0 0 _ Policy k0 (lit< tt) refl
    ∙ the-read limits text ts 1 0 _ Name k1 (lit< tt) refl
    ∙ front_read limits text ts dl da dp de dh (filter-from kf) _
    ∙ judged-is (breaks_attrs limits 0 0 us) (judged-is (breaks_place limits p) (judged-is (breaks_elect limits e) (judged-is (breaks_handlers limits hs)
    (the-read limits text ts at_filter 0 _ Filter kf (lit< tt) refl
    ∙ whole_read limits text ts df (no_or-by ts at_choose (code terminal.Choose) kc refl refl refl refl refl) limits.comparisons _
    ∙ judged-is (breaks_condition limits limits.comparisons 0 0 filter) (choices_read limits text ts at_choose kc dc ks ds db (comparisons filter) limits.keys)))))

-- Moves over expressions, orders and conditions: what a token does to each symbol.
use Rattle.std.proofs.Common.{◌≡◌, ◌<◌, ◌≤◌, ℕ, ◌+◌, ◌==◌, List, ◌∷◌, refl, ap, lit<, Bool, true, false, Some, None, ◌∙◌}
use Rattle.policy_grammar.specs.declared.terminal.Lexeme.{Lexeme}
use Rattle.policy_grammar.specs.declared.limits.Limits.{Limits}
use Rattle.policy_grammar.specs.declared.fault.ParseFault.TheVariants.{Unexpected, Deep, Many}
use Rattle.policy_grammar.specs.declared.terminal.Terminal.TheVariants.{Min, First, Comma, And, Or, Not, Always, Open, Close, Plus, Minus, Star, Prefer}
use Rattle.policy_grammar.specs.declared.terminal.Terminal.TheVariants as terminal
use Rattle.policy_tree.specs.declared.trees.Cmp.{Cmp}
use Rattle.policy_grammar.specs.Words.{sign_word, key_word, compare_word}
use Rattle.policy_grammar.specs.Terminals.{code, kind_at}
use Rattle.policy_grammar.specs.Breaks.{deep, many, first_of}
use Rattle.policy_grammar.specs.Symbols.{Symbol, condition, order, key, keys, unit, ands, ors, close, compare, operand, operators, is_key, is_compare}
use Rattle.policy_grammar.specs.Machine.{go}
use Rattle.policy_grammar.proofs.Steps.{judged, go-stuck, go-same, go-move}
use Rattle.policy_grammar.proofs.CompleteConditions.{compares}
use Rattle.policy_parser.proofs.Judged.{broken, isnt, kept, past-deep, past-many, within-deep, within-many}

module _ (limits : Limits) (ts : List Lexeme) (at : ℕ) where
  -- a unary sign
  sign-move : (count base depth before : ℕ) (below : List Symbol) → kind_at ts at ≡ code Minus →
      go limits ts at count (operand base depth before ∷ below)
      ≡ judged (first_of (many limits.operators at before) (deep limits at depth)) (go limits ts (at + 1) count (operand base (depth + 1) (before + 1) ∷ below))
  sign-move count base depth before below k =
      go-move limits ts at (code terminal.Minus) count count (operand base depth before ∷ below) _ (first_of (many limits.operators at before) (deep limits at depth)) k (lit< tt) refl

  sign-within : (depth before : ℕ) → before < limits.operators → depth < limits.nesting → first_of (many limits.operators at before) (deep limits at depth) ≡ None
  sign-within depth before few open_few = rw (within-many limits.operators at before few, within-deep limits at depth open_few) refl

  pub sign-goes : (count base depth before : ℕ) (below : List Symbol) → kind_at ts at ≡ code Minus → before < limits.operators → depth < limits.nesting →
      go limits ts at count (operand base depth before ∷ below) ≡ go limits ts (at + 1) count (operand base (depth + 1) (before + 1) ∷ below)
  sign-goes count base depth before below k few open_few = kept _ (sign-move count base depth before below k) (sign-within depth before few open_few)

  pub sign-many : (count base depth before : ℕ) (below : List Symbol) → kind_at ts at ≡ code Minus → limits.operators ≤ before →
      go limits ts at count (operand base depth before ∷ below) ≡ Some (Many at limits.operators)
  sign-many count base depth before below k most =
      broken _ (sign-move count base depth before below k) (ap (λ o. first_of o (deep limits at depth)) (past-many limits.operators at before most))

  pub sign-deep : (count base depth before : ℕ) (below : List Symbol) → kind_at ts at ≡ code Minus → before < limits.operators → limits.nesting ≤ depth →
      go limits ts at count (operand base depth before ∷ below) ≡ Some (Deep at)
  sign-deep count base depth before below k few most =
      broken _ (sign-move count base depth before below k)
      (ap (λ o. first_of o (deep limits at depth)) (within-many limits.operators at before few) ∙ past-deep limits at depth most)

  -- an operator between factors or terms
  star-move : (count base before : ℕ) (below : List Symbol) → kind_at ts at ≡ code Star →
      go limits ts at count (operators base before ∷ below)
      ≡ judged (many limits.operators at before) (go limits ts (at + 1) count (operand base base (before + 1) ∷ below))
  star-move count base before below k =
      go-move limits ts at (code terminal.Star) count count (operators base before ∷ below) _ (many limits.operators at before) k (lit< tt) refl

  pub star-goes : (count base before : ℕ) (below : List Symbol) → kind_at ts at ≡ code Star → before < limits.operators →
      go limits ts at count (operators base before ∷ below) ≡ go limits ts (at + 1) count (operand base base (before + 1) ∷ below)
  star-goes count base before below k few = kept _ (star-move count base before below k) (within-many limits.operators at before few)

  pub star-many : (count base before : ℕ) (below : List Symbol) → kind_at ts at ≡ code Star → limits.operators ≤ before →
      go limits ts at count (operators base before ∷ below) ≡ Some (Many at limits.operators)
  star-many count base before below k most = broken _ (star-move count base before below k) (past-many limits.operators at before most)

  added-move : (count base before : ℕ) (below : List Symbol) (minus : Bool) → kind_at ts at ≡ sign_word minus →
      go limits ts at count (operators base before ∷ below)
      ≡ judged (many limits.operators at before) (go limits ts (at + 1) count (operand base base (before + 1) ∷ below))
  added-move count base before below true k =
      go-move limits ts at (code terminal.Minus) count count (operators base before ∷ below) _ (many limits.operators at before) k (lit< tt) refl
  added-move count base before below false k =
      go-move limits ts at (code terminal.Plus) count count (operators base before ∷ below) _ (many limits.operators at before) k (lit< tt) refl

  pub added-goes : (count base before : ℕ) (below : List Symbol) (minus : Bool) → kind_at ts at ≡ sign_word minus → before < limits.operators →
      go limits ts at count (operators base before ∷ below) ≡ go limits ts (at + 1) count (operand base base (before + 1) ∷ below)
  added-goes count base before below minus k few = kept _ (added-move count base before below minus k) (within-many limits.operators at before few)

  pub added-many : (count base before : ℕ) (below : List Symbol) (minus : Bool) → kind_at ts at ≡ sign_word minus → limits.operators ≤ before →
      go limits ts at count (operators base before ∷ below) ≡ Some (Many at limits.operators)
  added-many count base before below minus k most = broken _ (added-move count base before below minus k) (past-many limits.operators at before most)

  pub operators-over : (count base before : ℕ) (below : List Symbol) → (kind_at ts at == code Star) ≡ false → (kind_at ts at == code Plus) ≡ false →
      (kind_at ts at == code Minus) ≡ false → go limits ts at count (operators base before ∷ below) ≡ go limits ts at count below
  operators-over count base before below star plus minus =
      go-same limits ts at count count (operators base before ∷ below) below refl (rw (star, plus, minus) refl)

  -- keys of an order
  key-move : (bound before : ℕ) (below : List Symbol) (greatest : Bool) → kind_at ts at ≡ key_word greatest →
      go limits ts at 0 (key bound before ∷ below) ≡ judged (many bound at before) (go limits ts (at + 1) 0 (operand 0 0 0 ∷ keys bound (before + 1) ∷ below))
  key-move bound before below true k = go-move limits ts at (code terminal.Max) 0 0 (key bound before ∷ below) _ (many bound at before) k (lit< tt) refl
  key-move bound before below false k = go-move limits ts at (code terminal.Min) 0 0 (key bound before ∷ below) _ (many bound at before) k (lit< tt) refl

  pub key-goes : (bound before : ℕ) (below : List Symbol) (greatest : Bool) → kind_at ts at ≡ key_word greatest → before < bound →
      go limits ts at 0 (key bound before ∷ below) ≡ go limits ts (at + 1) 0 (operand 0 0 0 ∷ keys bound (before + 1) ∷ below)
  key-goes bound before below greatest k few = kept _ (key-move bound before below greatest k) (within-many bound at before few)

  pub key-many : (bound before : ℕ) (below : List Symbol) (greatest : Bool) → kind_at ts at ≡ key_word greatest → bound ≤ before →
      go limits ts at 0 (key bound before ∷ below) ≡ Some (Many at bound)
  key-many bound before below greatest k most = broken _ (key-move bound before below greatest k) (past-many bound at before most)

  pub key-none : (bound before : ℕ) (below : List Symbol) → is_key (kind_at ts at) ≡ false → (kind_at ts at == code Prefer) ≡ false → go limits ts at 0 (key bound before ∷ below) ≡ Some (Unexpected at)
  key-none bound before below isnt not_it = go-stuck limits ts at 0 (key bound before ∷ below) refl (rw (isnt, not_it) refl)

  prefer-move : (bound before : ℕ) (below : List Symbol) → kind_at ts at ≡ code Prefer →
      go limits ts at 0 (key bound before ∷ below) ≡ judged (many bound at before) (go limits ts (at + 1) 0 (condition limits.comparisons ∷ keys bound (before + 1) ∷ below))
  prefer-move bound before below k = go-move limits ts at (code terminal.Prefer) 0 0 (key bound before ∷ below) _ (many bound at before) k (lit< tt) refl

  pub prefer-goes : (bound before : ℕ) (below : List Symbol) → kind_at ts at ≡ code Prefer → before < bound →
      go limits ts at 0 (key bound before ∷ below) ≡ go limits ts (at + 1) 0 (unit limits.comparisons 0 ∷ ands limits.comparisons 0 ∷ ors limits.comparisons 0 ∷ keys bound (before + 1) ∷ below)
  prefer-goes bound before below k few =
      kept _ (prefer-move bound before below k) (within-many bound at before few)
      ∙ go-same limits ts (at + 1) 0 0 (condition limits.comparisons ∷ keys bound (before + 1) ∷ below) (unit limits.comparisons 0 ∷ ands limits.comparisons 0 ∷ ors limits.comparisons 0 ∷ keys bound (before + 1) ∷ below) refl refl

  pub prefer-many : (bound before : ℕ) (below : List Symbol) → kind_at ts at ≡ code Prefer → bound ≤ before →
      go limits ts at 0 (key bound before ∷ below) ≡ Some (Many at bound)
  prefer-many bound before below k most = broken _ (prefer-move bound before below k) (past-many bound at before most)

  pub order-key : (bound : ℕ) (below : List Symbol) → (kind_at ts at == code First) ≡ false → go limits ts at 0 (order bound ∷ below) ≡ go limits ts at 0 (key bound 0 ∷ below)
  order-key bound below isnt = go-same limits ts at 0 0 (order bound ∷ below) (key bound 0 ∷ below) refl (rw isnt refl)

  pub keys-goes : (bound before : ℕ) (below : List Symbol) → kind_at ts at ≡ code Comma → go limits ts at 0 (keys bound before ∷ below) ≡ go limits ts (at + 1) 0 (key bound before ∷ below)
  keys-goes bound before below k = go-move limits ts at (code terminal.Comma) 0 0 (keys bound before ∷ below) (key bound before ∷ below) None k (lit< tt) refl

  pub keys-over : (bound before : ℕ) (below : List Symbol) → (kind_at ts at == code Comma) ≡ false → go limits ts at 0 (keys bound before ∷ below) ≡ go limits ts at 0 below
  keys-over bound before below isnt = go-same limits ts at 0 0 (keys bound before ∷ below) below refl (rw isnt refl)

  -- units of a condition
  not-move : (count bound depth : ℕ) (below : List Symbol) → kind_at ts at ≡ code Not →
      go limits ts at count (unit bound depth ∷ below) ≡ judged (deep limits at depth) (go limits ts (at + 1) count (unit bound (depth + 1) ∷ below))
  not-move count bound depth below k = go-move limits ts at (code terminal.Not) count count (unit bound depth ∷ below) _ (deep limits at depth) k (lit< tt) refl

  pub not-goes : (count bound depth : ℕ) (below : List Symbol) → kind_at ts at ≡ code Not → depth < limits.nesting →
      go limits ts at count (unit bound depth ∷ below) ≡ go limits ts (at + 1) count (unit bound (depth + 1) ∷ below)
  not-goes count bound depth below k few = kept _ (not-move count bound depth below k) (within-deep limits at depth few)

  pub not-deep : (count bound depth : ℕ) (below : List Symbol) → kind_at ts at ≡ code Not → limits.nesting ≤ depth → go limits ts at count (unit bound depth ∷ below) ≡ Some (Deep at)
  not-deep count bound depth below k most = broken _ (not-move count bound depth below k) (past-deep limits at depth most)

  open-move : (count bound depth : ℕ) (below : List Symbol) → kind_at ts at ≡ code Open →
      go limits ts at count (unit bound depth ∷ below)
      ≡ judged (deep limits at depth) (go limits ts (at + 1) count (unit bound (depth + 1) ∷ ands bound (depth + 1) ∷ ors bound (depth + 1) ∷ close ∷ below))
  open-move count bound depth below k = go-move limits ts at (code terminal.Open) count count (unit bound depth ∷ below) _ (deep limits at depth) k (lit< tt) refl

  pub open-goes : (count bound depth : ℕ) (below : List Symbol) → kind_at ts at ≡ code Open → depth < limits.nesting →
      go limits ts at count (unit bound depth ∷ below) ≡ go limits ts (at + 1) count (unit bound (depth + 1) ∷ ands bound (depth + 1) ∷ ors bound (depth + 1) ∷ close ∷ below)
  open-goes count bound depth below k few = kept _ (open-move count bound depth below k) (within-deep limits at depth few)

  pub open-deep : (count bound depth : ℕ) (below : List Symbol) → kind_at ts at ≡ code Open → limits.nesting ≤ depth → go limits ts at count (unit bound depth ∷ below) ≡ Some (Deep at)
  open-deep count bound depth below k most = broken _ (open-move count bound depth below k) (past-deep limits at depth most)

  pub always-goes : (count bound depth : ℕ) (below : List Symbol) → kind_at ts at ≡ code Always → go limits ts at count (unit bound depth ∷ below) ≡ go limits ts (at + 1) count below
  always-goes count bound depth below k =
      go-move limits ts at (code terminal.Always) count count (unit bound depth ∷ below) below None k (lit< tt) refl

  pub close-goes : (count : ℕ) (below : List Symbol) → kind_at ts at ≡ code Close → go limits ts at count (close ∷ below) ≡ go limits ts (at + 1) count below
  close-goes count below k =
      go-move limits ts at (code terminal.Close) count count (close ∷ below) below None k (lit< tt) refl

  pub close-none : (count : ℕ) (below : List Symbol) → (kind_at ts at == code Close) ≡ false → go limits ts at count (close ∷ below) ≡ Some (Unexpected at)
  close-none count below isnt = go-stuck limits ts at count (close ∷ below) refl (rw isnt refl)

  pub test-begins : (count bound depth : ℕ) (below : List Symbol) → (kind_at ts at == code Always) ≡ false → (kind_at ts at == code Not) ≡ false → (kind_at ts at == code Open) ≡ false →
      go limits ts at count (unit bound depth ∷ below) ≡ go limits ts at count (operand depth depth 0 ∷ compare bound depth ∷ below)
  test-begins count bound depth below a n o =
      go-same limits ts at count count (unit bound depth ∷ below) (operand depth depth 0 ∷ compare bound depth ∷ below) refl (rw (a, n, o) refl)

  pub compare-goes : (text : List ℕ) (count bound depth : ℕ) (below : List Symbol) (c : Cmp) → kind_at ts at ≡ compare_word c → count < bound →
      go limits ts at count (compare bound depth ∷ below) ≡ go limits ts (at + 1) (count + 1) (operand depth depth 0 ∷ below)
  compare-goes text count bound depth below c k few = kept _ (compares limits text ts at count bound depth below c k) (within-many bound at count few)

  pub compare-many : (text : List ℕ) (count bound depth : ℕ) (below : List Symbol) (c : Cmp) → kind_at ts at ≡ compare_word c → bound ≤ count →
      go limits ts at count (compare bound depth ∷ below) ≡ Some (Many at bound)
  compare-many text count bound depth below c k most = broken _ (compares limits text ts at count bound depth below c k) (past-many bound at count most)

  pub compare-none : (count bound depth : ℕ) (below : List Symbol) → is_compare (kind_at ts at) ≡ false → go limits ts at count (compare bound depth ∷ below) ≡ Some (Unexpected at)
  compare-none count bound depth below isnt = go-stuck limits ts at count (compare bound depth ∷ below) refl (rw isnt refl)

  pub ands-goes : (count bound depth : ℕ) (below : List Symbol) → kind_at ts at ≡ code And → go limits ts at count (ands bound depth ∷ below) ≡ go limits ts (at + 1) count (unit bound depth ∷ ands bound depth ∷ below)
  ands-goes count bound depth below k =
      go-move limits ts at (code terminal.And) count count (ands bound depth ∷ below) _ None k (lit< tt) refl

  pub ors-goes : (count bound depth : ℕ) (below : List Symbol) → kind_at ts at ≡ code Or → go limits ts at count (ors bound depth ∷ below) ≡ go limits ts (at + 1) count (unit bound depth ∷ ands bound depth ∷ ors bound depth ∷ below)
  ors-goes count bound depth below k =
      go-move limits ts at (code terminal.Or) count count (ors bound depth ∷ below) _ None k (lit< tt) refl

  pub order-first : (bound : ℕ) (below : List Symbol) → kind_at ts at ≡ code First → go limits ts at 0 (order bound ∷ below) ≡ go limits ts (at + 1) 0 below
  order-first bound below k = go-move limits ts at (code terminal.First) 0 0 (order bound ∷ below) below None k (lit< tt) refl

  pub ands-over : (count bound depth : ℕ) (below : List Symbol) → (kind_at ts at == code And) ≡ false → go limits ts at count (ands bound depth ∷ below) ≡ go limits ts at count below
  ands-over count bound depth below isnt = go-same limits ts at count count (ands bound depth ∷ below) below refl (rw isnt refl)

  pub ors-over : (count bound depth : ℕ) (below : List Symbol) → (kind_at ts at == code Or) ≡ false → go limits ts at count (ors bound depth ∷ below) ≡ go limits ts at count below
  ors-over count bound depth below isnt = go-same limits ts at count count (ors bound depth ∷ below) below refl (rw isnt refl)

  pub condition-begins : (count bound : ℕ) (below : List Symbol) → go limits ts at count (condition bound ∷ below) ≡ go limits ts at 0 (unit bound 0 ∷ ands bound 0 ∷ ors bound 0 ∷ below)
  condition-begins count bound below = go-same limits ts at count 0 (condition bound ∷ below) (unit bound 0 ∷ ands bound 0 ∷ ors bound 0 ∷ below) refl refl

-- What the grammar has is read, up to the first limit that its tree passes: conditions.
use Rattle.std.proofs.Common.{◌≡◌, ℕ, ◌+◌, ◌==◌, List, ◌∷◌, refl, sym, ap, arith, lit<, false, Option, Some, None, ◌∙◌}
use Rattle.policy_tree.specs.declared.trees.Cmp.{Cmp}
use Rattle.policy_tree.specs.declared.trees.Cmp.TheVariants as cmp
use Rattle.policy_syntax.specs.declared.syntax.Owner.{Owner}
use Rattle.policy_syntax.specs.declared.syntax.Owner.TheVariants as owner
use Rattle.policy_syntax.specs.declared.syntax.OperandSyntax.{OperandSyntax}
use Rattle.policy_syntax.specs.declared.syntax.FactorSyntax.{FactorSyntax}
use Rattle.policy_syntax.specs.declared.syntax.ExprSyntax.{ExprSyntax}
use Rattle.policy_syntax.specs.SyntaxTrees.{ConditionTree, ConditionTrees, no_more, more}
use Rattle.policy_grammar.specs.declared.terminal.Lexeme.{Lexeme}
use Rattle.policy_grammar.specs.declared.terminal.Terminal.TheVariants.{And, Or, Not, Always, Open, Close}
use Rattle.policy_grammar.specs.declared.terminal.Terminal.TheVariants as terminal
use Rattle.policy_grammar.specs.declared.limits.Limits.{Limits}
use Rattle.policy_grammar.specs.declared.fault.ParseFault.{ParseFault}
use Rattle.policy_grammar.specs.Terminals.{code, kind_at}
use Rattle.policy_grammar.specs.Words.{compare_word, owner_word}
use Rattle.policy_grammar.specs.Expressions.{IsOperand, operand_number, operand_reference, IsFactor, factor_plain, factor_signed, term_of, IsExpr, expr_of}
use Rattle.policy_grammar.specs.Conditions.{conjunction, disjunction, IsUnit, unit_always, unit_not, unit_group, unit_test, IsAnds, ands_none, ands_more, IsConjunction, conjunction_of, IsOrs, ors_none, ors_more, IsCondition, condition_of}
use Rattle.policy_grammar.specs.Breaks.{deep, many, first_of, breaks_expr, comparisons, comparisons_of, breaks_condition, breaks_parts}
use Rattle.policy_grammar.specs.Symbols.{Symbol, condition, unit, ands, ors, close, compare, operand}
use Rattle.policy_grammar.specs.Machine.{go}
use Rattle.policy_grammar.proofs.Steps.{judged, judged-first, go-move, go-same}
use Rattle.policy_grammar.proofs.CompleteExpressions.{NoOperator, expr_read}

first-none : (o : Option ParseFault) → first_of o None ≡ o
first-none None = refl
first-none (Some f) = refl

pub breaks-conjunction : (limits : Limits) (most depth count at : ℕ) (first : ConditionTree) (rest : ConditionTrees) →
    breaks_condition limits most depth count (conjunction at first rest)
    ≡ first_of (breaks_condition limits most depth count first) (breaks_parts limits most depth (count + comparisons first) rest)
breaks-conjunction limits most depth count at first no_more = sym (first-none _)
breaks-conjunction limits most depth count at first (more second rest) = refl

pub breaks-disjunction : (limits : Limits) (most depth count at : ℕ) (first : ConditionTree) (rest : ConditionTrees) →
    breaks_condition limits most depth count (disjunction at first rest)
    ≡ first_of (breaks_condition limits most depth count first) (breaks_parts limits most depth (count + comparisons first) rest)
breaks-disjunction limits most depth count at first no_more = sym (first-none _)
breaks-disjunction limits most depth count at first (more second rest) = refl

pub comparisons-conjunction : (at : ℕ) (first : ConditionTree) (rest : ConditionTrees) →
    comparisons (conjunction at first rest) ≡ comparisons first + comparisons_of rest
comparisons-conjunction at first no_more = omega arith
comparisons-conjunction at first (more second rest) = refl

pub comparisons-disjunction : (at : ℕ) (first : ConditionTree) (rest : ConditionTrees) →
    comparisons (disjunction at first rest) ≡ comparisons first + comparisons_of rest
comparisons-disjunction at first no_more = omega arith
comparisons-disjunction at first (more second rest) = refl

-- a comparison begins there
pub record BeginsTest (ts : List Lexeme) (at : ℕ) : Type 0 where
  pub always : (kind_at ts at == code Always) ≡ false
  pub not : (kind_at ts at == code Not) ≡ false
  pub group : (kind_at ts at == code Open) ≡ false

owner-begins : {ts : List Lexeme} {at : ℕ} (o : Owner) → kind_at ts at ≡ owner_word o → BeginsTest ts at
owner-begins owner.Itself k = record { always = rw k refl; not = rw k refl; group = rw k refl }
owner-begins owner.Victim k = record { always = rw k refl; not = rw k refl; group = rw k refl }
owner-begins owner.Core k = record { always = rw k refl; not = rw k refl; group = rw k refl }
owner-begins owner.Thread k = record { always = rw k refl; not = rw k refl; group = rw k refl }

operand-begins : {text : List ℕ} {ts : List Lexeme} {at to : ℕ} {v : OperandSyntax} → IsOperand text ts at v to → BeginsTest ts at
operand-begins (operand_number k) = record { always = rw k refl; not = rw k refl; group = rw k refl }
operand-begins (operand_reference o k d w) = owner-begins o k

factor-begins : {text : List ℕ} {ts : List Lexeme} {at to : ℕ} {f : FactorSyntax} → IsFactor text ts at f to → BeginsTest ts at
factor-begins (factor_plain d) = operand-begins d
factor-begins (factor_signed f k d) = record { always = rw k refl; not = rw k refl; group = rw k refl }

pub expr-begins : {text : List ℕ} {ts : List Lexeme} {at to : ℕ} {e : ExprSyntax} → IsExpr text ts at e to → BeginsTest ts at
expr-begins (expr_of (term_of d times) added) = factor-begins d

pub compare-no_operator : (ts : List Lexeme) (at : ℕ) (c : Cmp) → kind_at ts at ≡ compare_word c → NoOperator ts at
compare-no_operator ts at cmp.Eq k = record { star = rw k refl; plus = rw k refl; minus = rw k refl }
compare-no_operator ts at cmp.Ne k = record { star = rw k refl; plus = rw k refl; minus = rw k refl }
compare-no_operator ts at cmp.Lt k = record { star = rw k refl; plus = rw k refl; minus = rw k refl }
compare-no_operator ts at cmp.Le k = record { star = rw k refl; plus = rw k refl; minus = rw k refl }
compare-no_operator ts at cmp.Gt k = record { star = rw k refl; plus = rw k refl; minus = rw k refl }
compare-no_operator ts at cmp.Ge k = record { star = rw k refl; plus = rw k refl; minus = rw k refl }

-- neither an operator nor `and` stands there
pub record NoAnd (ts : List Lexeme) (at : ℕ) : Type 0 where
  pub operator : NoOperator ts at
  pub and : (kind_at ts at == code And) ≡ false

-- nor `or`
pub record NoOr (ts : List Lexeme) (at : ℕ) : Type 0 where
  pub before : NoAnd ts at
  pub or : (kind_at ts at == code Or) ≡ false

pub no_operator-by : (ts : List Lexeme) (at k : ℕ) → kind_at ts at ≡ k → (k == code terminal.Star) ≡ false → (k == code terminal.Plus) ≡ false → (k == code terminal.Minus) ≡ false → NoOperator ts at
no_operator-by ts at k e star plus minus = record { star = rw e star; plus = rw e plus; minus = rw e minus }

pub no_or-by : (ts : List Lexeme) (at k : ℕ) → kind_at ts at ≡ k → (k == code terminal.Star) ≡ false → (k == code terminal.Plus) ≡ false → (k == code terminal.Minus) ≡ false → (k == code terminal.And) ≡ false → (k == code terminal.Or) ≡ false → NoOr ts at
no_or-by ts at k e star plus minus and or =
    record { before = record { operator = no_operator-by ts at k e star plus minus; and = rw e and }; or = rw e or }

and-stops : {ts : List Lexeme} {at : ℕ} → kind_at ts at ≡ code And → NoOperator ts at
and-stops k = no_operator-by _ _ (code terminal.And) k refl refl refl

or-stops : {ts : List Lexeme} {at : ℕ} → kind_at ts at ≡ code Or → NoAnd ts at
or-stops k = record { operator = no_operator-by _ _ (code terminal.Or) k refl refl refl; and = rw k refl }

pub close-stops : {ts : List Lexeme} {at : ℕ} → kind_at ts at ≡ code Close → NoOr ts at
close-stops k = record { before = record { operator = no_operator-by _ _ (code terminal.Close) k refl refl refl; and = rw k refl }; or = rw k refl }

pub ands-stop : {text : List ℕ} {ts : List Lexeme} {at to : ℕ} {us : ConditionTrees} → IsAnds text ts at us to → NoOperator ts to → NoOperator ts at
ands-stop ands_none n = n
ands-stop (ands_more k d rest) n = and-stops k

pub ors-stop : {text : List ℕ} {ts : List Lexeme} {at to : ℕ} {cs : ConditionTrees} → IsOrs text ts at cs to → NoAnd ts to → NoAnd ts at
ors-stop ors_none n = n
ors-stop (ors_more k d rest) n = or-stops k

module _ (limits : Limits) (text : List ℕ) (ts : List Lexeme) where
  go-count : (at : ℕ) {m n : ℕ} (stack : List Symbol) → m ≡ n → go limits ts at m stack ≡ go limits ts at n stack
  go-count at stack e = ap (λ i. go limits ts at i stack) e

  begins-test : (at count most depth : ℕ) (below : List Symbol) → BeginsTest ts at →
      go limits ts at count (unit most depth ∷ below) ≡ go limits ts at count (operand depth depth 0 ∷ compare most depth ∷ below)
  begins-test at count most depth below b =
      go-same limits ts at count count (unit most depth ∷ below) (operand depth depth 0 ∷ compare most depth ∷ below) refl
      (rw (b.always, b.not, b.group) refl)

  pub compares : (at count most depth : ℕ) (below : List Symbol) (c : Cmp) → kind_at ts at ≡ compare_word c →
      go limits ts at count (compare most depth ∷ below)
      ≡ judged (many most at count) (go limits ts (at + 1) (count + 1) (operand depth depth 0 ∷ below))
  compares at count most depth below cmp.Eq k = go-move limits ts at (code terminal.Equal) count (count + 1) (compare most depth ∷ below) _ (many most at count) k (lit< tt) refl
  compares at count most depth below cmp.Ne k = go-move limits ts at (code terminal.Unequal) count (count + 1) (compare most depth ∷ below) _ (many most at count) k (lit< tt) refl
  compares at count most depth below cmp.Lt k = go-move limits ts at (code terminal.Less) count (count + 1) (compare most depth ∷ below) _ (many most at count) k (lit< tt) refl
  compares at count most depth below cmp.Le k = go-move limits ts at (code terminal.AtMost) count (count + 1) (compare most depth ∷ below) _ (many most at count) k (lit< tt) refl
  compares at count most depth below cmp.Gt k = go-move limits ts at (code terminal.More) count (count + 1) (compare most depth ∷ below) _ (many most at count) k (lit< tt) refl
  compares at count most depth below cmp.Ge k = go-move limits ts at (code terminal.AtLeast) count (count + 1) (compare most depth ∷ below) _ (many most at count) k (lit< tt) refl

  pub ands-end : (at count most depth : ℕ) (below : List Symbol) → (kind_at ts at == code And) ≡ false →
      go limits ts at count (ands most depth ∷ below) ≡ go limits ts at count below
  ands-end at count most depth below n = go-same limits ts at count count (ands most depth ∷ below) below refl (rw n refl)

  pub ors-end : (at count most depth : ℕ) (below : List Symbol) → (kind_at ts at == code Or) ≡ false →
      go limits ts at count (ors most depth ∷ below) ≡ go limits ts at count below
  ors-end at count most depth below n = go-same limits ts at count count (ors most depth ∷ below) below refl (rw n refl)

  mutual
    pub unit_read : {at to : ℕ} {v : ConditionTree} → IsUnit text ts at v to → NoOperator ts to → (count most depth : ℕ) (below : List Symbol) →
        go limits ts at count (unit most depth ∷ below)
        ≡ judged (breaks_condition limits most depth count v) (go limits ts to (count + comparisons v) below)
    unit_read {at = at} (unit_always k) n count most depth below =
        go-move limits ts at (code terminal.Always) count count (unit most depth ∷ below) below None k (lit< tt) refl
        ∙ go-count (at + 1) below (omega arith)
    unit_read {at = at} (unit_not {v = v} k d) n count most depth below =
        go-move limits ts at (code terminal.Not) count count (unit most depth ∷ below) (unit most (depth + 1) ∷ below) (deep limits at depth) k (lit< tt) refl
        ∙ ap (judged (deep limits at depth)) (unit_read d n count most (depth + 1) below)
        ∙ sym (judged-first (deep limits at depth) _ _)
    unit_read {at = at} (unit_group {mid = mid} {v = v} k d c) n count most depth below =
        go-move limits ts at (code terminal.Open) count count (unit most depth ∷ below) (unit most (depth + 1) ∷ ands most (depth + 1) ∷ ors most (depth + 1) ∷ close ∷ below)
        (deep limits at depth) k (lit< tt) refl
        ∙ ap (judged (deep limits at depth))
        (condition_read d (close-stops c) count most (depth + 1) (close ∷ below)
        ∙ ap (judged (breaks_condition limits most (depth + 1) count v))
        (go-move limits ts mid (code terminal.Close) (count + comparisons v) (count + comparisons v) (close ∷ below) below None c (lit< tt) refl))
        ∙ sym (judged-first (deep limits at depth) _ _)
    unit_read {at = at} {to = to} (unit_test {mid = mid} c {left = left} {right = right} d k e) n count most depth below =
        begins-test at count most depth below (expr-begins d)
        ∙ expr_read limits text ts d (compare-no_operator ts mid c k) count depth (compare most depth ∷ below)
        ∙ ap (judged (breaks_expr limits depth left))
        (compares mid count most depth below c k
        ∙ ap (judged (many most mid count)) (expr_read limits text ts e n (count + 1) depth below)
        ∙ sym (judged-first (many most mid count) _ _))
        ∙ sym (judged-first (breaks_expr limits depth left) _ _)

    pub ands_read : {at to : ℕ} {us : ConditionTrees} → IsAnds text ts at us to → NoAnd ts to → (count most depth : ℕ) (below : List Symbol) →
        go limits ts at count (ands most depth ∷ below)
        ≡ judged (breaks_parts limits most depth count us) (go limits ts to (count + comparisons_of us) below)
    ands_read {at = at} ands_none n count most depth below =
        ands-end at count most depth below n.and ∙ go-count at below (omega arith)
    ands_read {at = at} {to = to} (ands_more {v = v} {rest = rest} k d others) n count most depth below =
        go-move limits ts at (code terminal.And) count count (ands most depth ∷ below) (unit most depth ∷ ands most depth ∷ below)
        None k (lit< tt) refl
        ∙ unit_read d (ands-stop others n.operator) count most depth (ands most depth ∷ below)
        ∙ ap (judged (breaks_condition limits most depth count v))
        (ands_read others n (count + comparisons v) most depth below
        ∙ ap (judged (breaks_parts limits most depth (count + comparisons v) rest)) (go-count to below (omega arith)))
        ∙ sym (judged-first (breaks_condition limits most depth count v) _ _)

    pub conjunction_read : {at to : ℕ} {v : ConditionTree} → IsConjunction text ts at v to → NoAnd ts to → (count most depth : ℕ) (below : List Symbol) →
        go limits ts at count (unit most depth ∷ ands most depth ∷ below)
        ≡ judged (breaks_condition limits most depth count v) (go limits ts to (count + comparisons v) below)
    conjunction_read {at = at} {to = to} (conjunction_of first rest d others) n count most depth below =
        unit_read d (ands-stop others n.operator) count most depth (ands most depth ∷ below)
        ∙ ap (judged (breaks_condition limits most depth count first)) (ands_read others n (count + comparisons first) most depth below)
        ∙ sym (judged-first (breaks_condition limits most depth count first) _ _)
        ∙ ap (λ o. judged o (go limits ts to (count + comparisons first + comparisons_of rest) below)) (sym (breaks-conjunction limits most depth count at first rest))
        ∙ ap (judged (breaks_condition limits most depth count (conjunction at first rest)))
        (go-count to below (omega (arith, comparisons-conjunction at first rest)))

    pub ors_read : {at to : ℕ} {cs : ConditionTrees} → IsOrs text ts at cs to → NoOr ts to → (count most depth : ℕ) (below : List Symbol) →
        go limits ts at count (ors most depth ∷ below)
        ≡ judged (breaks_parts limits most depth count cs) (go limits ts to (count + comparisons_of cs) below)
    ors_read {at = at} ors_none n count most depth below =
        ors-end at count most depth below n.or ∙ go-count at below (omega arith)
    ors_read {at = at} {to = to} (ors_more {v = v} {rest = rest} k d others) n count most depth below =
        go-move limits ts at (code terminal.Or) count count (ors most depth ∷ below) (unit most depth ∷ ands most depth ∷ ors most depth ∷ below) None k (lit< tt) refl
        ∙ conjunction_read d (ors-stop others n.before) count most depth (ors most depth ∷ below)
        ∙ ap (judged (breaks_condition limits most depth count v))
        (ors_read others n (count + comparisons v) most depth below
        ∙ ap (judged (breaks_parts limits most depth (count + comparisons v) rest)) (go-count to below (omega arith)))
        ∙ sym (judged-first (breaks_condition limits most depth count v) _ _)

    pub condition_read : {at to : ℕ} {v : ConditionTree} → IsCondition text ts at v to → NoOr ts to → (count most depth : ℕ) (below : List Symbol) →
        go limits ts at count (unit most depth ∷ ands most depth ∷ ors most depth ∷ below)
        ≡ judged (breaks_condition limits most depth count v) (go limits ts to (count + comparisons v) below)
    condition_read {at = at} {to = to} (condition_of first rest d others) n count most depth below =
        conjunction_read d (ors-stop others n.before) count most depth (ors most depth ∷ below)
        ∙ ap (judged (breaks_condition limits most depth count first)) (ors_read others n (count + comparisons first) most depth below)
        ∙ sym (judged-first (breaks_condition limits most depth count first) _ _)
        ∙ ap (λ o. judged o (go limits ts to (count + comparisons first + comparisons_of rest) below)) (sym (breaks-disjunction limits most depth count at first rest))
        ∙ ap (judged (breaks_condition limits most depth count (disjunction at first rest)))
        (go-count to below (omega (arith, comparisons-disjunction at first rest)))

  pub condition-begins : (at count most : ℕ) (below : List Symbol) →
      go limits ts at count (condition most ∷ below) ≡ go limits ts at 0 (unit most 0 ∷ ands most 0 ∷ ors most 0 ∷ below)
  condition-begins at count most below = go-same limits ts at count 0 (condition most ∷ below) (unit most 0 ∷ ands most 0 ∷ ors most 0 ∷ below) refl refl

  -- a whole condition
  pub whole_read : {at to : ℕ} {v : ConditionTree} → IsCondition text ts at v to → NoOr ts to → (most : ℕ) (below : List Symbol) →
      go limits ts at 0 (condition most ∷ below) ≡ judged (breaks_condition limits most 0 0 v) (go limits ts to (comparisons v) below)
  whole_read {at = at} {to = to} {v = v} d n most below =
      condition-begins at 0 most below ∙ condition_read d n 0 most 0 below
      ∙ ap (judged (breaks_condition limits most 0 0 v)) (go-count to below (omega arith))

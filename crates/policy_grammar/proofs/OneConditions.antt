-- The tokens from a place on have one tree at most, and it ends at one place: conditions.
use Rattle.std.proofs.Common.{◌≡◌, ◌+◌, ℕ, List, arith}
use Rattle.policy_tree.specs.declared.trees.Cmp.{Cmp}
use Rattle.policy_syntax.specs.declared.syntax.ExprSyntax.{ExprSyntax}
use Rattle.policy_syntax.specs.SyntaxTrees.{ConditionTree, negated, grouped, test, ConditionTrees, more}
use Rattle.policy_grammar.specs.declared.terminal.Lexeme.{Lexeme}
use Rattle.policy_grammar.specs.declared.terminal.Terminal.TheVariants as terminal
use Rattle.policy_grammar.specs.Terminals.{code, kind_at}
use Rattle.policy_grammar.specs.Words.{compare_word}
use Rattle.policy_grammar.specs.Expressions.{IsExpr}
use Rattle.policy_grammar.specs.Conditions.{conjunction, disjunction, IsUnit, unit_always, unit_not, unit_group, unit_test, IsAnds, ands_none, ands_more, IsConjunction, conjunction_of, IsOrs, ors_none, ors_more, IsCondition, condition_of}
use Rattle.policy_grammar.proofs.CompleteExpressions.{NoOperator}
use Rattle.policy_grammar.proofs.CompleteConditions.{NoAnd, NoOr, expr-begins, compare-no_operator, close-stops, ands-stop, ors-stop}
use Rattle.policy_grammar.proofs.OneExpressions.{expr-one}
use Rattle.policy_grammar.proofs.Same.{Same, same, same-ap, and-then, is-not, compare-same}

closed : {v w : ConditionTree} {m n : ℕ} → Same v m w n → Same v (m + 1) w (n + 1)
closed same = same

module _ (text : List ℕ) (ts : List Lexeme) where
  compared : {left other right another : ExprSyntax} {mid there to so : ℕ} (a b : Cmp) →
      kind_at ts mid ≡ compare_word a → kind_at ts there ≡ compare_word b → Same left mid other there →
      IsExpr text ts (mid + 1) right to → NoOperator ts to → IsExpr text ts (there + 1) another so → NoOperator ts so →
      Same (test mid a left right) to (test there b other another) so
  compared {left = left} {mid = mid} a b k l same d n e m =
      same-ap (λ p. test mid p.0 left p.1)
      (and-then (λ i. IsExpr text ts (i + 1)) (compare-same mid a b k l) e (λ o. expr-one text ts d n o m))

  mutual
    pub unit-one : {at to so : ℕ} {v w : ConditionTree} → IsUnit text ts at v to → NoOperator ts to → IsUnit text ts at w so → NoOperator ts so → Same v to w so
    unit-one (unit_always k) n (unit_always l) m = same
    unit-one (unit_always k) n (unit_not l e) m = absurd (omega (arith, k, l))
    unit-one (unit_always k) n (unit_group l e f) m = absurd (omega (arith, k, l))
    unit-one (unit_always k) n (unit_test c d l e) m = absurd (is-not _ (code terminal.Always) (expr-begins d).always k)
    unit-one (unit_not k d) n (unit_always l) m = absurd (omega (arith, k, l))
    unit-one {at = at} (unit_not k d) n (unit_not l e) m = same-ap (negated at) (unit-one d n e m)
    unit-one (unit_not k d) n (unit_group l e f) m = absurd (omega (arith, k, l))
    unit-one (unit_not k d) n (unit_test c e l f) m = absurd (is-not _ (code terminal.Not) (expr-begins e).not k)
    unit-one (unit_group k d c) n (unit_always l) m = absurd (omega (arith, k, l))
    unit-one (unit_group k d c) n (unit_not l e) m = absurd (omega (arith, k, l))
    unit-one {at = at} (unit_group k d c) n (unit_group l e f) m =
        closed (same-ap (grouped at) (condition-one d (close-stops c) e (close-stops f)))
    unit-one (unit_group k d c) n (unit_test b e l f) m = absurd (is-not _ (code terminal.Open) (expr-begins e).group k)
    unit-one (unit_test c d l e) n (unit_always k) m = absurd (is-not _ (code terminal.Always) (expr-begins d).always k)
    unit-one (unit_test c d l e) n (unit_not k f) m = absurd (is-not _ (code terminal.Not) (expr-begins d).not k)
    unit-one (unit_test c d l e) n (unit_group k f g) m = absurd (is-not _ (code terminal.Open) (expr-begins d).group k)
    unit-one (unit_test a d k e) n (unit_test b f l g) m =
        compared a b k l (expr-one text ts d (compare-no_operator ts _ a k) f (compare-no_operator ts _ b l)) e n g m

    ands-one : {at to so : ℕ} {v w : ConditionTrees} → IsAnds text ts at v to → NoAnd ts to → IsAnds text ts at w so → NoAnd ts so → Same v to w so
    ands-one ands_none n ands_none m = same
    ands-one ands_none n (ands_more l e others) m = absurd (is-not _ (code terminal.And) n.and l)
    ands-one (ands_more k d rest) n ands_none m = absurd (is-not _ (code terminal.And) m.and k)
    ands-one (ands_more k d rest) n (ands_more l e others) m =
        same-ap (λ p. more p.0 p.1)
        (and-then (IsAnds text ts) (unit-one d (ands-stop rest n.operator) e (ands-stop others m.operator)) others (λ o. ands-one rest n o m))

    conjunction-one : {at to so : ℕ} {v w : ConditionTree} → IsConjunction text ts at v to → NoAnd ts to → IsConjunction text ts at w so → NoAnd ts so → Same v to w so
    conjunction-one {at = at} (conjunction_of first rest d are) n (conjunction_of second others e too) m =
        same-ap (λ p. conjunction at p.0 p.1)
        (and-then (IsAnds text ts) (unit-one d (ands-stop are n.operator) e (ands-stop too m.operator)) too (λ o. ands-one are n o m))

    ors-one : {at to so : ℕ} {v w : ConditionTrees} → IsOrs text ts at v to → NoOr ts to → IsOrs text ts at w so → NoOr ts so → Same v to w so
    ors-one ors_none n ors_none m = same
    ors-one ors_none n (ors_more l e others) m = absurd (is-not _ (code terminal.Or) n.or l)
    ors-one (ors_more k d rest) n ors_none m = absurd (is-not _ (code terminal.Or) m.or k)
    ors-one (ors_more k d rest) n (ors_more l e others) m =
        same-ap (λ p. more p.0 p.1)
        (and-then (IsOrs text ts) (conjunction-one d (ors-stop rest n.before) e (ors-stop others m.before)) others (λ o. ors-one rest n o m))

    pub condition-one : {at to so : ℕ} {v w : ConditionTree} → IsCondition text ts at v to → NoOr ts to → IsCondition text ts at w so → NoOr ts so → Same v to w so
    condition-one {at = at} (condition_of first rest d are) n (condition_of second others e too) m =
        same-ap (λ p. disjunction at p.0 p.1)
        (and-then (IsOrs text ts) (conjunction-one d (ors-stop are n.before) e (ors-stop too m.before)) too (λ o. ors-one are n o m))

-- The faults of a condition stand in the order of its tokens.
use Rattle.std.proofs.Common.{◌≡◌, ℕ, ◌+◌, ◌^◌, ◌≤◌, List, [], ◌∷◌, ◌++◌, refl, sym, ap, subst, arith}
use Rattle.policy_syntax.specs.SyntaxTrees.{ConditionTree, ConditionTrees, no_more, more}
use Rattle.policy_grammar.specs.declared.terminal.Lexeme.{Lexeme}
use Rattle.policy_grammar.specs.Conditions.{IsAnds, ands_none, ands_more, IsCondition, condition_of, IsConjunction, conjunction_of, IsOrs, ors_none, ors_more, IsUnit, unit_always, unit_not, unit_group, unit_test, conjunction, disjunction}
use Rattle.policy_types.specs.declared.fault.TypeFault.{TypeFault}
use Rattle.policy_types.specs.declared.scope.Scope.{Scope}
use Rattle.policy_types.specs.declared.sites.Site.{Site}
use Rattle.policy_types.specs.Conditions.{condition_faults, parts_faults}
use Rattle.policy_types.specs.Expressions.{expr_faults}
use Rattle.policy_types.proofs.Spans.{Spans, spans_append, spans_none, spans_wider}
use Rattle.policy_types.proofs.WalkExpressions.{expr_spans}

append_none : (xs : List TypeFault) → xs ≡ xs ++ []
append_none [] = refl
append_none (x ∷ xs) = ap (λ ys. x ∷ ys) (append_none xs)

conjunction_faults : (scope : Scope) (site : Site) (at : ℕ) (first : ConditionTree) (rest : ConditionTrees) → condition_faults scope site (conjunction at first rest) ≡ condition_faults scope site first ++ parts_faults scope site rest
conjunction_faults scope site at first no_more = append_none (condition_faults scope site first)
conjunction_faults scope site at first (more second rest) = refl

disjunction_faults : (scope : Scope) (site : Site) (at : ℕ) (first : ConditionTree) (rest : ConditionTrees) → condition_faults scope site (disjunction at first rest) ≡ condition_faults scope site first ++ parts_faults scope site rest
disjunction_faults scope site at first no_more = append_none (condition_faults scope site first)
disjunction_faults scope site at first (more second rest) = refl

module _ (text : List ℕ) (ts : List Lexeme) (scope : Scope) (site : Site) where
  mutual
    unit_spans : {at to : ℕ} {v : ConditionTree} → IsUnit text ts at v to → to ≤ 2 ^ 32 → Spans at to (condition_faults scope site v)
    unit_spans {at = at} (unit_always k) room = spans_none at (at + 1) (omega arith)
    unit_spans {at = at} {to = to} (unit_not {v = v} k d) room =
        spans_wider at (at + 1) to to (condition_faults scope site v) (omega arith) (omega arith) (unit_spans d room)
    unit_spans {at = at} (unit_group {mid = mid} {v = v} k d close) room =
        spans_wider at (at + 1) mid (mid + 1) (condition_faults scope site v) (omega arith) (omega arith) (condition_spans d (omega arith))
    unit_spans {at = at} {to = to} (unit_test {mid = mid} compare {left = left} {right = right} l k r) room =
        let later = expr_spans text ts scope site r room in let end = later.ordered in
        spans_append at mid to (expr_faults scope site left) (expr_faults scope site right) (expr_spans text ts scope site l (omega arith))
        (spans_wider mid (mid + 1) to to (expr_faults scope site right) (omega arith) (omega arith) later)

    ands_spans : {at to : ℕ} {vs : ConditionTrees} → IsAnds text ts at vs to → to ≤ 2 ^ 32 → Spans at to (parts_faults scope site vs)
    ands_spans {at = at} ands_none room = spans_none at at (omega arith)
    ands_spans {at = at} {to = to} (ands_more {mid = mid} {v = v} {rest = rest} k d others) room =
        let later = ands_spans others room in let end = later.ordered in
        spans_append at mid to (condition_faults scope site v) (parts_faults scope site rest)
        (spans_wider at (at + 1) mid mid (condition_faults scope site v) (omega arith) (omega arith) (unit_spans d (omega arith))) later

    conjunction_spans : {at to : ℕ} {v : ConditionTree} → IsConjunction text ts at v to → to ≤ 2 ^ 32 → Spans at to (condition_faults scope site v)
    conjunction_spans {at = at} {to = to} (conjunction_of {mid = mid} first rest d others) room =
        let later = ands_spans others room in let end = later.ordered in
        subst (Spans at to) (sym (conjunction_faults scope site at first rest))
        (spans_append at mid to (condition_faults scope site first) (parts_faults scope site rest) (unit_spans d (omega arith)) later)

    ors_spans : {at to : ℕ} {vs : ConditionTrees} → IsOrs text ts at vs to → to ≤ 2 ^ 32 → Spans at to (parts_faults scope site vs)
    ors_spans {at = at} ors_none room = spans_none at at (omega arith)
    ors_spans {at = at} {to = to} (ors_more {mid = mid} {v = v} {rest = rest} k d others) room =
        let later = ors_spans others room in let end = later.ordered in
        spans_append at mid to (condition_faults scope site v) (parts_faults scope site rest)
        (spans_wider at (at + 1) mid mid (condition_faults scope site v) (omega arith) (omega arith) (conjunction_spans d (omega arith))) later

    condition_spans : {at to : ℕ} {v : ConditionTree} → IsCondition text ts at v to → to ≤ 2 ^ 32 → Spans at to (condition_faults scope site v)
    condition_spans {at = at} {to = to} (condition_of {mid = mid} first rest d others) room =
        let later = ors_spans others room in let end = later.ordered in
        subst (Spans at to) (sym (disjunction_faults scope site at first rest))
        (spans_append at mid to (condition_faults scope site first) (parts_faults scope site rest) (conjunction_spans d (omega arith)) later)

  pub test_spans : {at to : ℕ} {v : ConditionTree} → IsUnit text ts at v to → to ≤ 2 ^ 32 → Spans at to (condition_faults scope site v)
  test_spans d room = unit_spans d room

  pub guard_spans : {at to : ℕ} {v : ConditionTree} → IsCondition text ts at v to → to ≤ 2 ^ 32 → Spans at to (condition_faults scope site v)
  guard_spans d room = condition_spans d room

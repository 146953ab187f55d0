-- The first case that holds is the only one, where exactly one holds.
use Rattle.std.proofs.Common.{◌≡◌, ℕ, suc, ◌+◌, ◌<◌, ℤ, Bool, true, false, cond, List, [], ◌∷◌, length, map, filter, drop, get_or, sym, ap, ◌∙◌, arith, subst}
use Rattle.std.specs.List.{AllByRecursion}
use Rattle.std.proofs.lemmas.List.{drop_more, nil_from_length}
use Rattle.sched_base.specs.declared.task.Task.{Task}
use Rattle.policy_tree.specs.declared.typed.Case.{Case}
use Rattle.policy_tree.specs.declared.typed.Event.{Event}
use Rattle.policy_tree.specs.Meaning.{CaseTree, Meaning, SetTree, case_tree, cases_on}
use Rattle.policy_eval.specs.Events.{IsSettable, holding_cases, outcome_of_case, outcomes_of, seen_by_handler}
use Rattle.policy_eval.specs.Evaluable.{IsEvaluableCond}
use Rattle.policy_eval.specs.Resolved.{IsResolved, IsResolvedCase, IsResolvedSet}
use Rattle.policy_eval.specs.Sites.{handling}
use Rattle.policy_eval.specs.Values.{holds}
use Rattle.policy_eval.proofs.Evaluable.{AllByRecursion-each, evaluable_cond, evaluable_expr}

-- those of these cases that hold
abbrev pub holding_among : Bool → List ℤ → Task → List CaseTree → List CaseTree
holding_among fresh consts t cases = filter (λ (c : CaseTree). holds (seen_by_handler fresh consts t) c.guard) cases

-- each of these cases is one of a resolved policy
abbrev pub AreResolvedCases : Meaning → Event → List CaseTree → Type 0
AreResolvedCases p e cases = AllByRecursion (IsResolvedCase p e) cases

pub holding_cases-all : (p : Meaning) (e : Event) (fresh : Bool) (consts : List ℤ) (t : Task) (cases : List CaseTree) → cases ≡ cases_on p.handlers e
    → holding_among fresh consts t cases ≡ holding_cases p e fresh consts t
unfolding holding_cases
holding_cases-all p e fresh consts t cases are = ap (holding_among fresh consts t) are

pub resolved_all : (p : Meaning) → IsResolved p → (e : Event) (cases : List CaseTree) → cases ≡ cases_on p.handlers e → AreResolvedCases p e cases
resolved_all p is e cases are =
    subst (AreResolvedCases p e) (sym are) (AllByRecursion-each (IsResolvedCase p e) (IsResolvedCase p e) (λ c resolved. resolved) (cases_on p.handlers e) (is.handlers e).cases)

-- a case that doesn't hold is passed over
pub holding_among-more : (fresh : Bool) (consts : List ℤ) (t : Task) (c : CaseTree) (cases : List CaseTree) → holds (seen_by_handler fresh consts t) c.guard ≡ false
    → holding_among fresh consts t (c ∷ cases) ≡ holding_among fresh consts t cases
holding_among-more fresh consts t c cases fails = ap (λ b. cond b (c ∷ holding_among fresh consts t cases) (holding_among fresh consts t cases)) fails

-- the outcome where the first of the cases that are left holds
pub outcomes_of-one : (p : Meaning) (e : Event) (fresh : Bool) (consts : List ℤ) (t : Task) (c : CaseTree) (cases : List CaseTree)
    → length (holding_cases p e fresh consts t) ≡ 1 → holding_among fresh consts t (c ∷ cases) ≡ holding_cases p e fresh consts t
    → holds (seen_by_handler fresh consts t) c.guard ≡ true → outcomes_of p e fresh consts t ≡ outcome_of_case p fresh consts t c ∷ []
unfolding outcomes_of
outcomes_of-one p e fresh consts t c cases one same test =
    let first : holding_among fresh consts t (c ∷ cases) ≡ c ∷ holding_among fresh consts t cases =
    ap (λ b. cond b (c ∷ holding_among fresh consts t cases) (holding_among fresh consts t cases)) test in
    let count : suc (length (holding_among fresh consts t cases)) ≡ 1 = ap length (sym first) ∙ (ap length same ∙ one) in
    let none : holding_among fresh consts t cases ≡ [] = nil_from_length (holding_among fresh consts t cases) (omega arith) in
    ap (map (outcome_of_case p fresh consts t)) (sym same ∙ (first ∙ ap (λ (rest : List CaseTree). c ∷ rest) none))

-- the assignments of a resolved case can be carried out
pub settable_all : (p : Meaning) → IsResolved p → (e : Event) (c : CaseTree) → IsResolvedCase p e c → AllByRecursion (IsSettable p) c.sets
settable_all p is e c resolved =
    AllByRecursion-each (IsResolvedSet p e) (IsSettable p) (λ (s : SetTree) set. record { declared = set.declared; evaluable = evaluable_expr p is (handling e) s.expr set.value }) c.sets resolved.sets

pub guard_evaluable : (p : Meaning) → IsResolved p → (e : Event) (c : CaseTree) → IsResolvedCase p e c → IsEvaluableCond c.guard
guard_evaluable p is e c resolved = evaluable_cond p is (handling e) c.guard resolved.guard

-- the cases from a place on begin with the case in that place
pub cases-drop : (cases : List Case) (at : ℕ) (x : Case) → at < length cases → x ≡ get_or cases at x
    → map case_tree (drop at cases) ≡ case_tree x ∷ map case_tree (drop (at + 1) cases)
cases-drop cases at x inside is =
    ap (map case_tree) (drop_more cases at x inside) ∙ ap (λ (y : Case). case_tree y ∷ map case_tree (drop (at + 1) cases)) (sym is)

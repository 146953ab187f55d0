-- A point has one value for each variable of its obligation.
use Rattle.std.proofs.Common.{◌≡◌, ℕ, List, length, sym, ap, ◌∙◌}
use Rattle.std.proofs.lemmas.List.{length-map}
use Rattle.sched_base.specs.declared.limits.TheConstants.{CHECK_BUDGET}
use Rattle.policy_tree.specs.Meaning.{Meaning}
use Rattle.policy_eval.specs.Obligations.{Statement}
use Rattle.policy_eval.specs.Resolved.{IsResolved}
use Rattle.policy_eval.specs.Values.{variable_of}
use Rattle.obligations.specs.Systems.{systems_of, variables_of}
use Rattle.policy_checker.specs.Answers.{IsAnswer}
use Rattle.policy_checker.specs.declared.answer.ObAnswer.{ObAnswer}
use Rattle.policy_checker.specs.declared.answer.ObAnswer.TheVariants as answer
use Rattle.policy_checker.proofs.Points.{points_refute}
use Rattle.policy_answers.specs.Points.{HasValues}

pub has_values : (p : Meaning) → IsResolved p → (s : Statement) (vars : List ℕ) (a : ObAnswer) → vars ≡ variables_of p s → IsAnswer CHECK_BUDGET (systems_of p s) a → HasValues vars a
has_values p is s vars (answer.Holds certs) same found = tt
has_values p is s vars (answer.Fails point) same found =
    let fails = points_refute p is s CHECK_BUDGET point.vals found in
    sym (ap length fails.shown) ∙ (length-map (variables_of p s) (variable_of fails.values) ∙ sym (ap length same))
has_values p is s vars (answer.Undecided points) same found = tt

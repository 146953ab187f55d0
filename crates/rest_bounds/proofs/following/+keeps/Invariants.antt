use Rattle.std.proofs.Common.{◌≡◌, ◌≤◌}
use Rattle.policy_tree.specs.declared.trees.Cond.{size-Cond}
use Rattle.policy_tree.specs.Trees.{cond_tree}
use Rattle.policy_eval.specs.Evaluable.{IsEvaluable}
use Rattle.policy_eval.specs.Forms.{EachSide}
use Rattle.rest_bounds.specs.Following.{keeps as keeps_at}
use Rattle.rest_bounds.proofs.following.+keeps.Given as goal

abbrev pub decreases-keeps : goal.decreases-keeps
decreases-keeps l = goal.size-keeps l

-- what is left of the chain keeps the outcome exactly where the whole does
abbrev pub invariant-loop-rest : goal.invariant-loop-rest
invariant-loop-rest l = record {
  same : keeps_at l.weight l.outcome (cond_tree l.rest) ≡ keeps_at l.weight l.outcome (cond_tree l.cond);
  shallow : size-Cond l.rest ≤ size-Cond l.cond;
  sides : EachSide IsEvaluable (cond_tree l.rest);
}

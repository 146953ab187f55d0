use Rattle.std.proofs.Common.{◌≡◌, ◌≤◌}
use Rattle.policy_tree.specs.declared.trees.Cond.{size-Cond}
use Rattle.policy_tree.specs.Trees.{cond_tree}
use Rattle.policy_eval.specs.Evaluable.{IsEvaluable}
use Rattle.policy_eval.specs.Forms.{EachSide}
use Rattle.policy_eval.specs.Values.{holds as holds_at}
use Rattle.policy_eval.proofs.evaluation.+holds.Given as goal

abbrev pub decreases-holds : goal.decreases-holds
decreases-holds l = goal.size-holds l

-- what is left of the chain holds exactly where the whole does
abbrev pub invariant-loop-rest : goal.invariant-loop-rest
invariant-loop-rest l = record {
  same : holds_at l.env.vals (cond_tree l.rest) ≡ holds_at l.env.vals (cond_tree l.cond);
  shallow : size-Cond l.rest ≤ size-Cond l.cond;
  evaluable : EachSide IsEvaluable (cond_tree l.rest);
}

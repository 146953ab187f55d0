use Rattle.std.proofs.Common.{◌≡◌, ◌≤◌}
use Rattle.policy_tree.specs.declared.trees.Cond.{size-Cond}
use Rattle.policy_tree.specs.Trees.{cond_tree}
use Rattle.wait_classes.specs.Attributes.{never as never_at}
use Rattle.wait_classes.proofs.attributes.+never.Given as goal

abbrev pub decreases-never : goal.decreases-never
decreases-never l = goal.size-never l

-- what is left of the chain never has the outcome exactly where the whole doesn't
abbrev pub invariant-loop-rest : goal.invariant-loop-rest
invariant-loop-rest l = record {
  same : never_at l.attribute l.value l.outcome (cond_tree l.rest) ≡ never_at l.attribute l.value l.outcome (cond_tree l.cond);
  shallow : size-Cond l.rest ≤ size-Cond l.cond;
}

use Rattle.std.proofs.Common.{◌≡◌, ◌≤◌}
use Rattle.policy_tree.specs.Chains.{nodes_of}
use Rattle.policy_tree.specs.Trees.{cond_tree}
use Rattle.obligations.specs.Counts.{count_of, reported}
use Rattle.obligations.specs.Tallies.{IsSmall, worth}
use Rattle.obligations.proofs.counts.+count.Given as goal

abbrev pub decreases-count : goal.decreases-count
decreases-count l = nodes_of (cond_tree l.cond.now)

-- what is left of the chain, with what its links make of it, has the count of the whole
abbrev pub invariant-loop-rest : goal.invariant-loop-rest
invariant-loop-rest l = record {
  same : reported (worth l.tally (count_of l.outcome (cond_tree l.rest))) ≡ reported (count_of l.outcome (cond_tree l.cond));
  shallow : nodes_of (cond_tree l.rest) ≤ nodes_of (cond_tree l.cond);
  small : IsSmall l.tally;
}

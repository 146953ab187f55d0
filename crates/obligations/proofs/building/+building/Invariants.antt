-- What stands to the right of a link has fewer nodes than the chain.
use Rattle.std.proofs.Common.{◌≡◌, ◌+◌, ◌*◌, All, vec_len}
use Rattle.policy_tree.specs.Chains.{nodes_of}
use Rattle.policy_tree.specs.Trees.{cond_tree}
use Rattle.obligations.specs.Cases.{cases_of}
use Rattle.obligations.specs.ChainCases.{IsBelow, IsLinearLink, along, end_nodes}
use Rattle.obligations.proofs.building.+building.Given as goal

abbrev pub decreases-cases_of : goal.decreases-cases_of
decreases-cases_of l = 2 * nodes_of (cond_tree l.cond.now) + 1

abbrev pub decreases-cases_of_end : goal.decreases-cases_of_end
decreases-cases_of_end l = 2 * end_nodes l.end

abbrev pub decreases-linked : goal.decreases-linked
decreases-linked l = 2 * nodes_of (cond_tree l.link.right.now) + 2

abbrev pub invariant-cases_of-loop-link : goal.invariant-cases_of-loop-link
invariant-cases_of-loop-link l = record {
  chain : along l.load l.outcome l.links.items l.cases.items ≡ cases_of l.load l.outcome (cond_tree l.cond);
  below : All (IsBelow (nodes_of (cond_tree l.cond))) l.links.items;
  linear : All IsLinearLink l.links.items;
}

abbrev pub decreases-cases_of-loop-link : goal.decreases-cases_of-loop-link
decreases-cases_of-loop-link l = vec_len l.links

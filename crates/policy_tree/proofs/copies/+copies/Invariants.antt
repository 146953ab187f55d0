-- What stands to the right of a link has fewer nodes than the chain.
use Rattle.std.proofs.Common.{◌≡◌, ◌+◌, ◌*◌, All, vec_len}
use Rattle.policy_tree.specs.Chains.{IsBelow, added_by, chained, nodes_of}
use Rattle.policy_tree.specs.Trees.{cond_tree}
use Rattle.policy_tree.proofs.copies.+copies.Given as goal

abbrev pub decreases-copy_of_cond : goal.decreases-copy_of_cond
decreases-copy_of_cond l = 2 * nodes_of (cond_tree l.cond.now) + 1

abbrev pub decreases-copy_of_end : goal.decreases-copy_of_end
decreases-copy_of_end l = 2 * nodes_of (cond_tree l.cond.now)

abbrev pub decreases-copy_of_link : goal.decreases-copy_of_link
decreases-copy_of_link l = 2 * added_by l.link + 2

abbrev pub invariant-copy_of_cond-loop-link : goal.invariant-copy_of_cond-loop-link
invariant-copy_of_cond-loop-link l = record {
  chain : chained l.links.items (cond_tree l.copy) ≡ cond_tree l.cond;
  links : All (IsBelow (nodes_of (cond_tree l.cond))) l.links.items;
}

abbrev pub decreases-copy_of_cond-loop-link : goal.decreases-copy_of_cond-loop-link
decreases-copy_of_cond-loop-link l = vec_len l.links

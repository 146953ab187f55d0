-- The links so far, and the chain that is left.
use Rattle.std.proofs.Common.{◌≡◌, ◌≤◌, All}
use Rattle.policy_tree.specs.Chains.{IsBelow, chained, nodes_of}
use Rattle.policy_tree.specs.Trees.{cond_tree}
use Rattle.policy_tree.proofs.copies.chain_of.Given as goal

abbrev pub invariant-loop-end : goal.invariant-loop-end
invariant-loop-end l = record {
  chain : chained l.links.items (cond_tree l.end) ≡ cond_tree l.cond;
  nodes : nodes_of (cond_tree l.end) ≤ nodes_of (cond_tree l.cond);
  links : All (IsBelow (nodes_of (cond_tree l.cond))) l.links.items;
}

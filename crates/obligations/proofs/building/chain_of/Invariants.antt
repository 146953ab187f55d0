use Rattle.std.proofs.Common.{◌≡◌, ◌≤◌, All}
use Rattle.policy_tree.specs.declared.typed.Load.{Load}
use Rattle.policy_tree.specs.Chains.{nodes_of}
use Rattle.policy_tree.specs.Trees.{cond_tree}
use Rattle.policy_eval.specs.Forms.{EachSide, IsLinear}
use Rattle.obligations.specs.Cases.{cases_of}
use Rattle.obligations.specs.ChainCases.{IsBelow, IsLinearLink, along}
use Rattle.obligations.proofs.building.chain_of.Given as goal

abbrev pub invariant-loop-links : goal.invariant-loop-links
invariant-loop-links l = record {
  chain : (load : Load) → along load l.outcome l.links.items (cases_of load l.outcome (cond_tree l.end)) ≡ cases_of load l.outcome (cond_tree l.cond);
  nodes : nodes_of (cond_tree l.end) ≤ nodes_of (cond_tree l.cond);
  linear : EachSide IsLinear (cond_tree l.end);
  below : All (IsBelow (nodes_of (cond_tree l.cond))) l.links.items;
  links : All IsLinearLink l.links.items;
}

abbrev pub decreases-loop-links : goal.decreases-loop-links
decreases-loop-links l = nodes_of (cond_tree l.end)

-- The parts that are left, with the chain so far, are the whole chain, and break the same rules.
use Rattle.std.proofs.Common.{◌≡◌, None, drop, option_map}
use Rattle.policy_syntax.specs.SyntaxTrees.{condition_trees}
use Rattle.policy_tree.specs.Trees.{cond_tree}
use Rattle.policy_types.specs.Conditions.{chain_meaning, parts_faults}
use Rattle.policy_types.proofs.scope.Scope.+conditions.Given as goal

abbrev pub invariant-chain-loop-part : goal.invariant-chain-loop-part
invariant-chain-loop-part l = record {
  tree : chain_meaning l.self l.both (option_map cond_tree l.chain) (condition_trees (drop l.part-index l.parts))
      ≡ chain_meaning l.self l.both None (condition_trees l.parts);
  faults : parts_faults l.self l.site (condition_trees (drop l.part-index l.parts)) ≡ parts_faults l.self l.site (condition_trees l.parts);
}

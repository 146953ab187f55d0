-- One of the levels so far takes the core in.
use Rattle.std.proofs.Common.{◌≡◌, map, take}
use Rattle.policy_tree.specs.Trees.{cond_tree}
use Rattle.level_policy.specs.Compiled.{near}
use Rattle.level_policy.specs.Levels.{level_tree}
use Rattle.level_policy.proofs.conditions.near.Given as goal

abbrev pub invariant-loop-next : goal.invariant-loop-next
invariant-loop-next l = cond_tree l.near ≡ near (take l.next (map level_tree l.levels))

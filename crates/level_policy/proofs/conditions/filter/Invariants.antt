-- The filters of the levels so far, one of which holds.
use Rattle.std.proofs.Common.{◌≡◌, [], map, take}
use Rattle.policy_tree.specs.Trees.{cond_tree}
use Rattle.level_policy.specs.Compiled.{any_of, level_filters}
use Rattle.level_policy.specs.Levels.{level_tree}
use Rattle.level_policy.proofs.conditions.filter.Given as goal

abbrev pub invariant-loop-at : goal.invariant-loop-at
invariant-loop-at l = cond_tree l.filter ≡ any_of (take l.at (level_filters [] (map level_tree l.levels)))

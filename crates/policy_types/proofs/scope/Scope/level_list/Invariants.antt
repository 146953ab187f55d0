-- The levels so far are read, and those that are left break the same rules.
use Rattle.std.proofs.Common.{◌≡◌, drop, map, take, vec_len}
use Rattle.level_policy.specs.Levels.{level_tree}
use Rattle.policy_syntax.specs.LevelTrees.{one_level_syntax_tree}
use Rattle.policy_types.specs.Levels.{level_list_faults, level_meaning}
use Rattle.policy_types.proofs.scope.Scope.level_list.Given as goal

abbrev pub invariant-loop-level : goal.invariant-loop-level
invariant-loop-level l = record {
  same : map level_tree l.levels.items ≡ map (level_meaning l.self) (map one_level_syntax_tree (take l.level-index l.read));
  len : vec_len l.levels ≡ l.level-index;
  faults : level_list_faults l.self (map one_level_syntax_tree (drop l.level-index l.read)) ≡ level_list_faults l.self (map one_level_syntax_tree l.read);
}

-- The keys of the levels so far.
use Rattle.std.proofs.Common.{◌≡◌, ◌+◌, ◌-◌, map, vec_len}
use Rattle.std.specs.List.{range_with_len}
use Rattle.policy_tree.specs.Meaning.{order_tree}
use Rattle.level_policy.specs.Compiled.{nearer}
use Rattle.level_policy.specs.Levels.{level_tree}
use Rattle.level_policy.proofs.keys.level_keys.Given as goal

abbrev pub invariant-loop-count : goal.invariant-loop-count
invariant-loop-count l = record {
  same : order_tree l.keys.items ≡ map (nearer (map level_tree l.levels)) (range_with_len 1 (l.count - 1));
  len : vec_len l.keys + 1 ≡ l.count;
}

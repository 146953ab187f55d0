-- The assignments so far are those of the copy.
use Rattle.std.proofs.Common.{◌≡◌, map, take, vec_len}
use Rattle.policy_tree.specs.Meaning.{set_tree}
use Rattle.level_policy.proofs.handlers.copy_of_sets.Given as goal

abbrev pub invariant-loop-set : goal.invariant-loop-set
invariant-loop-set l = record {
  same : map set_tree l.copy.items ≡ map set_tree (take l.set-index l.sets);
  len : vec_len l.copy ≡ l.set-index;
}

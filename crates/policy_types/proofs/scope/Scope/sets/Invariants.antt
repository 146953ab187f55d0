-- The assignments so far are read, and those that are left break the same rules.
use Rattle.std.proofs.Common.{◌≡◌, drop, map, take, vec_len}
use Rattle.policy_tree.specs.Meaning.{set_tree}
use Rattle.policy_types.specs.Handlers.{set_meaning, sets_faults}
use Rattle.policy_types.proofs.scope.Scope.sets.Given as goal

abbrev pub invariant-loop-set : goal.invariant-loop-set
invariant-loop-set l = record {
  same : map set_tree l.read.items ≡ map (set_meaning l.self) (take l.set-index l.sets);
  len : vec_len l.read ≡ l.set-index;
  faults : sets_faults l.self l.event (drop l.set-index l.sets) ≡ sets_faults l.self l.event l.sets;
}

use Rattle.std.proofs.Common.{◌≡◌, [], map, vec_capacity, vec_len}
use Rattle.std.specs.List.{range_with_len}
use Rattle.policy_tree.specs.Meaning.{meaning_of}
use Rattle.core_moves.specs.Cores.{core_view}
use Rattle.core_moves.proofs.cores.open_all.Given as goal

-- the cores that are open
abbrev pub invariant-loop-core : goal.invariant-loop-core
invariant-loop-core l = record {
  items : l.cores.items ≡ map (core_view (meaning_of l.policy) l.plan []) (range_with_len 0 l.core);
  len : vec_len l.cores ≡ l.core;
  room : vec_capacity l.cores ≡ l.plan.cores;
}

use Rattle.std.proofs.Common.{◌≡◌, ◌≤◌, ℕ, length, map, max}
use Rattle.std.specs.List.{range_with_len}
use Rattle.round_model.specs.FreshReads.{touched_from}
use Rattle.round_model.specs.Reads.{round_start}
use Rattle.turn_tests.proofs.reads.fresh_reads.Given as goal

-- a read of each core passed over
abbrev pub invariant-loop-core : goal.invariant-loop-core
invariant-loop-core l = record {
  reads : l.reads ≡ map (λ (c : ℕ). max (round_start l.history) (touched_from c 0 0 l.history)) (range_with_len 0 l.core);
  few : length l.reads ≤ l.core;
}

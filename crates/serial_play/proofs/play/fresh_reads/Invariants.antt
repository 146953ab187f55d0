use Rattle.std.proofs.Common.{◌≡◌, ◌≤◌, ℕ, length, map, max, slice_index}
use Rattle.std.specs.List.{range_with_len}
use Rattle.serial_play.proofs.play.fresh_reads.Given as goal

-- a read of each core passed over
abbrev pub invariant-loop-core : goal.invariant-loop-core
invariant-loop-core l = record {
  reads : l.reads ≡ map (λ (c : ℕ). max l.play.start (slice_index l.play.touched c)) (range_with_len 0 l.core);
  few : length l.reads ≤ l.core;
}

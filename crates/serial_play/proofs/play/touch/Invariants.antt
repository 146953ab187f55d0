use Rattle.std.proofs.Common.{◌≡◌, ◌<◌, ◌≤◌, ℕ, cond, length, slice_index}
use Rattle.round_model.specs.Entries.{touches}
use Rattle.serial_play.proofs.play.touch.Given as goal

-- the cores passed over are noted, and the others are as they were
abbrev pub invariant-loop-core : goal.invariant-loop-core
invariant-loop-core l = record {
  long : length l.touched ≡ length l.fn.touched;
  passed : (c : ℕ) → c < l.core → slice_index l.touched c ≡ cond (touches c l.entry) l.end (slice_index l.fn.touched c);
  later : (c : ℕ) → l.core ≤ c → slice_index l.touched c ≡ slice_index l.fn.touched c;
}

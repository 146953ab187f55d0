use Rattle.std.proofs.Common.{◌≡◌, ◌<◌, ℕ, None, length, slice_index_or}
use Rattle.serial_play.proofs.rounds.forget.Given as goal

-- the looks passed over are forgotten
abbrev pub invariant-loop-core : goal.invariant-loop-core
invariant-loop-core l = record {
  long : length l.looks ≡ length l.fn.looks;
  none : (c : ℕ) → c < l.core → slice_index_or l.looks c None ≡ None;
}

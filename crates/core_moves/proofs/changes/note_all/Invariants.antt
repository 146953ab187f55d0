use Rattle.std.proofs.Common.{◌≡◌, ℕ, ◌<◌, ◌≤◌, length, slice_get, Some}
use Rattle.core_moves.specs.Code.Changes.{HoldsAt, noted}
use Rattle.core_moves.proofs.changes.note_all.Given as goal

-- the cores passed over are done, and the others are as they were
abbrev pub invariant-loop-core : goal.invariant-loop-core
invariant-loop-core l = record {
  len : length l.cores ≡ length l.initial.cores;
  done : (k : ℕ) → k < l.core → HoldsAt l.initial.cores k (λ y. slice_get l.cores k ≡ Some (noted l.at l.entry k y));
  rest : (k : ℕ) → l.core ≤ k → slice_get l.cores k ≡ slice_get l.initial.cores k;
}

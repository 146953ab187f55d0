use Rattle.std.proofs.Common.{◌≡◌, ℕ, ◌<◌, ◌≤◌, cond, length, slice_get, Some}
use Rattle.round_model.specs.declared.state.ModelCore.{ModelCore}
use Rattle.round_model.specs.Cores.{seen_of}
use Rattle.round_model.specs.Entries.{touches}
use Rattle.round_judge.specs.Notes.{seen_at}
use Rattle.round_judge.proofs.notes.look.Given as goal

-- the cores passed over are seen as they are where they are touched, and the others as before
abbrev pub invariant-loop-core : goal.invariant-loop-core
invariant-loop-core l = record {
  len : length l.row ≡ length l.initial.row;
  done : (c : ℕ) (core : ModelCore) → c < l.core → slice_get l.state c ≡ Some core → seen_at l.row c ≡ cond (touches c l.entry) (seen_of core) (seen_at l.initial.row c);
  left : (c : ℕ) → l.core ≤ c → seen_at l.row c ≡ seen_at l.initial.row c;
}

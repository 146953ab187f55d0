-- How far cores have come in their turns, as the code keeps it.
use Rattle.std.specs.Prelude.{◌≡◌, ℕ, false, Option, None, slice_index_or}
use Rattle.round_judge.specs.Past.{is_flagged}
use Rattle.core_worker.specs.declared.turn.Look.{Look}
use Rattle.core_worker.specs.declared.turn.Turns.{Turns}

-- the look that the core keeps
abbrev pub look_of : Turns → ℕ → Option Look
look_of turns c = slice_index_or turns.looks c None

-- no core has done anything
pub record IsBegun (turns : Turns) : Type 0 where
  pub worked : (c : ℕ) → is_flagged turns.worked c ≡ false
  pub attempted : (c : ℕ) → is_flagged turns.attempted c ≡ false
  pub looks : (c : ℕ) → look_of turns c ≡ None

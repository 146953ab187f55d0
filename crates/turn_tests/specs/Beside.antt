-- A turn that is taken step by step, by the calls of a core in memory.
use Rattle.std.specs.Prelude.{ℕ}
use Rattle.turn_steps.specs.States.{TurnState}
use Rattle.core_calls.specs.Stepping.{HasLooked, IsPlaying}
use Rattle.turn_tests.specs.declared.memory_calls.MemoryCalls.{MemoryCalls}
use Rattle.turn_tests.specs.Memory.{IsReady, view_of}

-- the turn was told what the core's calls answered, and the gate was passed once a look was told
pub record IsBeside (Passed : ℕ → ℕ → Type 0) (it : MemoryCalls) (t : TurnState) : Type 0 where
  pub ready : IsReady it
  pub playing : IsPlaying t (view_of it)
  pub passed : HasLooked t.reached → Passed t.core t.round

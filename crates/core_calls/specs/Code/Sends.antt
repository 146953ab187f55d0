-- A thread that is due goes over from one held core to another, as the code does it. No promise rests on this.
use Rattle.std.specs.Prelude.{◌≡◌, ℕ, false, option_map, Option, Some, None}
use Rattle.policy_tree.specs.Meaning.{Meaning}
use Rattle.round_model.specs.declared.state.Blocked.{Blocked}
use Rattle.round_model.specs.declared.state.ModelCore.{ModelCore}
use Rattle.round_model.specs.Moves.{admitted, blocked_of, released}
use Rattle.round_model.specs.Scenes.{waking_next}
use Rattle.core_state.specs.Views.{CoreView}

-- the number of the next thread that is due in that round
abbrev pub due_in : ℕ → ModelCore → Option ℕ
due_in round core = option_map (λ (b : Blocked). b.task.id) (waking_next round core)

-- the blocked thread of that number leaves the one core and comes to the other
pub record SendsOne (p : Meaning) (thread : ℕ) (own other own_now other_now : CoreView) : Type 0 where
  pub blocked : Blocked
  pub found : blocked_of thread own.core ≡ Some blocked
  pub left : own_now ≡ record own { core = released thread own.core }
  pub came : other_now ≡ record other { core = admitted p false blocked.task other.core }

-- so does the thread, or, where there is none, both stay
abbrev pub SendsIt : Meaning → Option ℕ → (own other own_now other_now : CoreView) → Type 0
SendsIt p None own other own_now other_now = (own_now ≡ own) × (other_now ≡ other)
SendsIt p (Some thread) own other own_now other_now = SendsOne p thread own other own_now other_now

-- the thread is the next that is due in that round
pub record Sends (p : Meaning) (round : ℕ) (thread : Option ℕ) (own other own_now other_now : CoreView) : Type 0 where
  pub due : thread ≡ due_in round own.core
  pub sent : SendsIt p thread own other own_now other_now

-- When a policy can be played, and what commands may answer under one that can be to the text of a trace.
use Rattle.std.specs.Prelude.{◌≡◌, ℕ, Bool, false, List, None}
use Rattle.policy_tree.specs.Meaning.{Meaning}
use Rattle.policy_reader.specs.Spelled.{SpellsPolicy}
use Rattle.obligations.specs.Counts.{first_crowded}
use Rattle.obligations.specs.Names.{ob_names}
use Rattle.policy_checker.specs.Playable.{HasCertifiedHandlers, is_playable}
use Rattle.policy_answers.specs.declared.answer.CheckAnswer.{CheckAnswer}
use Rattle.policy_answers.specs.declared.answer.CheckAnswer.TheVariants as checked
use Rattle.trace_simulation.specs.declared.answer.SimulationAnswer.{SimulationAnswer}
use Rattle.trace_simulation.specs.Simulations.{IsSimulationOf, IsWasteOf}
use Rattle.ipanema_cli.specs.declared.kinds.SimulationCommand.{SimulationCommand}
use Rattle.ipanema_cli.specs.declared.kinds.SimulationCommand.TheVariants as simulation_command

-- The text spells this policy, no obligation has too many cases, and each system of each handler obligation has a
-- right certificate.
pub record IsPlayable (text : List ℕ) (p : Meaning) : Type 0 where
  pub spells : SpellsPolicy text p
  pub few : first_crowded p ob_names ≡ None
  pub certified : HasCertifiedHandlers p

-- whether the policy can be played: each handler obligation of it is answered to hold
abbrev pub lets_play : CheckAnswer → Bool
lets_play (checked.Judged verdict) = is_playable verdict
lets_play (checked.Unjudged why) = false

-- a command that simulates: what it may answer under a policy that can be played to the text of a trace
abbrev pub Simulating : Type 1
Simulating = Meaning → (trace : List ℕ) → SimulationAnswer → Type 0

-- what each of them may answer
abbrev pub simulating_of : SimulationCommand → Simulating
simulating_of simulation_command.Simulate = IsSimulationOf
simulating_of simulation_command.Waste = IsWasteOf

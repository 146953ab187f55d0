-- What a run by a crew comes to where it doesn't come to its end.
use Rattle.std.specs.Prelude.{◌≡◌, ℕ}
use Rattle.policy_tree.specs.Meaning.{Meaning}
use Rattle.round_model.specs.declared.plan.Plan.{Plan}
use Rattle.core_table.specs.declared.seat.Seat.{Seat}
use Rattle.core_table.specs.declared.seat.Table.{Table}
use Rattle.parallel_play.specs.Runs.{RunsFull}
use Rattle.crew_play.specs.declared.fault.CrewFault.{CrewFault}
use Rattle.crew_play.specs.declared.fault.CrewFault.TheVariants as fault

-- the cause of the fault, of a run that began with that table and seat
abbrev pub IsFaultOf : Meaning → Plan → (Passed : ℕ → ℕ → Type 0) → Table → Seat → CrewFault → Type 0
IsFaultOf p plan Passed table seat (fault.HistoryFull closed) = RunsFull p plan Passed closed
IsFaultOf p plan Passed table seat (fault.Memory left own) = (left ≡ table) × (own ≡ seat)

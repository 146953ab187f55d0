-- What serial play over running cores comes to.
use Rattle.std.specs.Prelude.{◌≡◌, List, map}
use Rattle.policy_tree.specs.Meaning.{Meaning}
use Rattle.policy_eval.specs.Obligations.{MeetsObligations}
use Rattle.round_laws.specs.MainTheorem.{KeepsLaws}
use Rattle.round_model.specs.declared.entry.Entry.{Entry}
use Rattle.round_model.specs.declared.plan.Plan.{Plan}
use Rattle.round_model.specs.Cores.{core_numbers}
use Rattle.serial_steps.specs.SerialEnds.{EndsWhole, StopsFull}
use Rattle.core_state.specs.Logs.{LogsOf}
use Rattle.core_state.specs.Views.{ClosedView}
use Rattle.core_moves.specs.Cores.{core_view}
use Rattle.core_worker.specs.declared.fault.PlayFault.{PlayFault}
use Rattle.core_worker.specs.declared.fault.PlayFault.TheVariants as fault

-- cores and logs are those of the serial history, which is whole. Where the policy meets all that it owes, the history
-- keeps the laws of every interleaving
pub record PlaysWhole (p : Meaning) (plan : Plan) (closed : ClosedView) : Type 0 where
  pub history : List Entry
  pub cores : closed.cores ≡ map (core_view p plan history) (core_numbers plan)
  pub logs : LogsOf history closed
  pub ends : EndsWhole p plan history
  pub keeps : MeetsObligations p → KeepsLaws p plan history

-- cores and logs are those of the complete rounds before the first that might not fit the plan's limit
pub record PlaysFull (p : Meaning) (plan : Plan) (closed : ClosedView) : Type 0 where
  pub history : List Entry
  pub cores : closed.cores ≡ map (core_view p plan history) (core_numbers plan)
  pub logs : LogsOf history closed
  pub stops : StopsFull p plan history
  pub keeps : MeetsObligations p → KeepsLaws p plan history

-- the cause of a fault. Want of memory has none
abbrev pub IsFaultOf : Meaning → Plan → PlayFault → Type 0
IsFaultOf p plan (fault.HistoryFull closed) = PlaysFull p plan closed
IsFaultOf p plan fault.Memory = Unit {0}

-- What a run of all cores side by side comes to.
use Rattle.std.specs.Prelude.{◌≡◌, ℕ, ◌+◌, ◌<◌, ◌≤◌, List, length, slice_get, Some}
use mathlib.Core.Option.{some}
use lib.ListN.{get_elem?}
use Rattle.policy_tree.specs.Meaning.{Meaning}
use Rattle.policy_eval.specs.Obligations.{MeetsObligations}
use Rattle.round_laws.specs.MainTheorem.{KeepsLaws}
use Rattle.round_model.specs.declared.entry.Entry.{Entry}
use Rattle.round_model.specs.declared.entry.Entry.TheVariants as entry
use Rattle.round_model.specs.declared.plan.Plan.{Plan}
use Rattle.round_model.specs.After.{after}
use Rattle.round_model.specs.Legal.{IsComplete, Legal, Whole, rounds_begun}
use Rattle.serial_steps.specs.SerialEnds.{IsFull, RoundFits}
use Rattle.core_state.specs.Logs.{LogsOf}
use Rattle.core_state.specs.Views.{ClosedView, CoreView}
use Rattle.parallel_play.specs.declared.fault.RunFault.{RunFault}
use Rattle.parallel_play.specs.declared.fault.RunFault.TheVariants as fault

-- each round of the history began where all that it may add fitted the plan's limit
abbrev pub HadRoom : Plan → List Entry → Type 0
HadRoom plan history = (at number : ℕ) → get_elem? history at ≡ some (entry.Round number) → RoundFits plan at

-- each core of the plan passed the gate in each round that began
abbrev pub AllPassed : (Passed : ℕ → ℕ → Type 0) → Plan → (begun : ℕ) → Type 0
AllPassed Passed plan begun = (c r : ℕ) → c < plan.cores → r < begun → Passed c (r + 1)

-- cores and logs are those of the history, which is legal. Where the policy meets all that it owes, the history keeps
-- the laws of every interleaving
pub record AreLeftBy (p : Meaning) (plan : Plan) (Passed : ℕ → ℕ → Type 0) (history : List Entry)
    (closed : ClosedView) : Type 0 where
  pub cores : (c : ℕ) (y : CoreView) → slice_get closed.cores c ≡ Some y → y.core ≡ after p plan history c
  pub logs : LogsOf history closed
  pub legal : Legal p plan history
  pub count : length closed.cores ≡ plan.cores
  pub few : length history ≤ plan.limit
  pub roomy : HadRoom plan history
  pub passed : AllPassed Passed plan (rounds_begun history)
  pub keeps : MeetsObligations p → KeepsLaws p plan history

-- so it is of a whole history
pub record RunsWhole (p : Meaning) (plan : Plan) (Passed : ℕ → ℕ → Type 0) (closed : ClosedView) : Type 0 where
  pub history : List Entry
  pub left : AreLeftBy p plan Passed history closed
  pub whole : Whole p plan history

-- so it is of a history of complete rounds, behind which a round is due that might not fit the plan's limit
pub record RunsFull (p : Meaning) (plan : Plan) (Passed : ℕ → ℕ → Type 0) (closed : ClosedView) : Type 0 where
  pub history : List Entry
  pub left : AreLeftBy p plan Passed history closed
  pub complete : IsComplete plan history
  pub full : IsFull plan history

-- the cause of the fault
abbrev pub IsFaultOf : Meaning → Plan → (Passed : ℕ → ℕ → Type 0) → RunFault → Type 0
IsFaultOf p plan Passed (fault.HistoryFull closed) = RunsFull p plan Passed closed

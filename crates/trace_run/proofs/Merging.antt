-- The history of the logs is the one that was run, and can be written.
use Rattle.std.proofs.Common.{ℕ, Result, Ok, Err, IfOk, subst, sym}
use Rattle.policy_tree.specs.Meaning.{Meaning}
use Rattle.round_model.specs.declared.plan.Plan.{Plan}
use Rattle.round_model.specs.Fits.{Fits}
use Rattle.round_model.specs.Legal.{rounds_begun}
use Rattle.round_model.specs.Limits.{IsWithinLimits}
use Rattle.core_state.specs.Views.{ClosedView}
use Rattle.history_merge.specs.Merged.{CanBeWritten, merged}
use Rattle.history_merge.proofs.MergedLists.{merged_history}
use Rattle.parallel_play.proofs.Beginnings.{nothing_begun}
use Rattle.core_table.specs.declared.seat.Seat.{Seat}
use Rattle.core_table.specs.declared.seat.Table.{Table}
use Rattle.parallel_play.specs.Runs.{AllPassed, RunsFull, RunsWhole}
use Rattle.crew_play.specs.Crews.{IsFaultOf}
use Rattle.crew_play.specs.declared.fault.CrewFault.{CrewFault}
use Rattle.crew_play.specs.declared.fault.CrewFault.TheVariants as crew
use Rattle.trace_play.specs.declared.cores.PlayedCores.{PlayedCores}
use Rattle.trace_play.specs.declared.cores.PlayedCores.TheVariants as cores
use Rattle.trace_play.proofs.Merged.{can_be_written}
use Rattle.trace_run.specs.Runs.{Left, RunEnds, RunStops}

module _ (p : Meaning) (plan : Plan) (Passed : ℕ → ℕ → Type 0) (closed : ClosedView) where
  pub merged_whole : RunsWhole p plan Passed closed → RunEnds p plan (merged closed)
  merged_whole run =
      subst (RunEnds p plan) (sym (merged_history closed run.history run.left.logs))
      (record { whole = run.whole; few = run.left.few; roomy = run.left.roomy })

  pub whole_passed : RunsWhole p plan Passed closed → AllPassed Passed plan (rounds_begun (merged closed))
  whole_passed run =
      subst (λ h. AllPassed Passed plan (rounds_begun h)) (sym (merged_history closed run.history run.left.logs)) run.left.passed

  pub merged_full : RunsFull p plan Passed closed → RunStops p plan (merged closed)
  merged_full run =
      subst (RunStops p plan) (sym (merged_history closed run.history run.left.logs))
      (record {
        legal = run.left.legal;
        complete = run.complete;
        full = run.full;
        few = run.left.few;
        roomy = run.left.roomy;
        at_once = nothing_begun p plan run.history run.left.legal run.left.roomy;
      })

  pub full_passed : RunsFull p plan Passed closed → AllPassed Passed plan (rounds_begun (merged closed))
  full_passed run =
      subst (λ h. AllPassed Passed plan (rounds_begun h)) (sym (merged_history closed run.history run.left.logs)) run.left.passed

  module _ (fits : Fits p plan) (limits : IsWithinLimits plan) where
    pub whole_can_be_written : RunsWhole p plan Passed closed → CanBeWritten closed
    whole_can_be_written run =
        can_be_written p plan closed run.history fits limits run.left.legal run.left.few run.left.count run.left.logs

    pub full_can_be_written : RunsFull p plan Passed closed → CanBeWritten closed
    full_can_be_written run =
        can_be_written p plan closed run.history fits limits run.left.legal run.left.few run.left.count run.left.logs

module _ (p : Meaning) (plan : Plan) (Passed : ℕ → ℕ → Type 0) (table : Table) (seat : Seat) where
  -- what holds of all cores that a full history leaves holds of those that are left
  pub of_left : {E : Type 0} (P : PlayedCores → Type 0) → ((closed : ClosedView) → RunsFull p plan Passed closed → P (cores.Full closed)) → (why : CrewFault)
      → IsFaultOf p plan Passed table seat why → (r : Result PlayedCores E) → IfOk r (Left why) → IfOk r P
  of_left P each (crew.HistoryFull closed) is (Ok left) same = subst P (sym same) (each closed is)
  of_left P each (crew.Memory t s) is (Ok left) none = absurd none
  of_left P each why is (Err e) same = tt

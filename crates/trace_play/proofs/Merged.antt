-- The history of the logs is the one that was played, and can be written.
use Rattle.std.proofs.Common.{◌≡◌, ◌≤◌, ℕ, List, length, map, ap, subst, sym, ◌∙◌, arith}
use Rattle.std.proofs.lemmas.List.{length-map}
use Rattle.std.proofs.lemmas.List.FromFn.{length-range_with_len}
use Rattle.policy_tree.specs.Meaning.{Meaning}
use Rattle.round_model.specs.declared.entry.Entry.{Entry}
use Rattle.round_model.specs.declared.plan.Plan.{Plan}
use Rattle.round_model.specs.Cores.{core_numbers}
use Rattle.round_model.specs.Fits.{Fits}
use Rattle.round_model.specs.Legal.{Legal}
use Rattle.round_model.specs.Limits.{IsWithinLimits}
use Rattle.serial_steps.specs.SerialEnds.{EndsWhole, StopsFull}
use Rattle.core_state.specs.Logs.{LogsOf}
use Rattle.core_state.specs.Views.{ClosedView, CoreView}
use Rattle.core_worker.specs.Played.{PlaysFull, PlaysWhole}
use Rattle.history_merge.specs.Merged.{CanBeWritten, merged}
use Rattle.history_merge.proofs.MergedLists.{merged_history}
use Rattle.sched_history.specs.Ranges.{CanBePrinted}
use Rattle.sched_history.proofs.Printable.{legal_is_printable}

-- logs of a legal history that isn't too long can be written
pub can_be_written : (p : Meaning) (plan : Plan) (closed : ClosedView) (history : List Entry) → Fits p plan → IsWithinLimits plan → Legal p plan history → length history ≤ plan.limit
    → length closed.cores ≡ plan.cores → LogsOf history closed → CanBeWritten closed
can_be_written p plan closed history fits limits legal few count logs =
    let most = limits.few_entries in
    let same : history ≡ merged closed = sym (merged_history closed history logs) in
    let can = subst (λ (cores : ℕ). CanBePrinted cores (merged closed)) (sym count)
    (subst (CanBePrinted plan.cores) same (legal_is_printable p plan history fits limits legal (omega arith))) in
    record { logs = (history, logs, omega arith); count = can.count; lines = can.printable.lines }

count_of_views : (plan : Plan) (closed : ClosedView) (view : ℕ → CoreView) → closed.cores ≡ map view (core_numbers plan) → length closed.cores ≡ plan.cores
count_of_views plan closed view are = ap length are ∙ (length-map (core_numbers plan) view ∙ length-range_with_len 0 plan.cores)

module _ (p : Meaning) (plan : Plan) (closed : ClosedView) where
  pub merged_whole : PlaysWhole p plan closed → EndsWhole p plan (merged closed)
  merged_whole played = subst (EndsWhole p plan) (sym (merged_history closed played.history played.logs)) played.ends

  pub merged_full : PlaysFull p plan closed → StopsFull p plan (merged closed)
  merged_full played = subst (StopsFull p plan) (sym (merged_history closed played.history played.logs)) played.stops

  pub whole_count : PlaysWhole p plan closed → length closed.cores ≡ plan.cores
  whole_count played = count_of_views plan closed _ played.cores

  pub full_count : PlaysFull p plan closed → length closed.cores ≡ plan.cores
  full_count played = count_of_views plan closed _ played.cores

  pub whole_can_be_written : Fits p plan → IsWithinLimits plan → PlaysWhole p plan closed → CanBeWritten closed
  whole_can_be_written fits limits played =
      can_be_written p plan closed played.history fits limits played.ends.whole.legal played.ends.few (whole_count played) played.logs

  pub full_can_be_written : Fits p plan → IsWithinLimits plan → PlaysFull p plan closed → CanBeWritten closed
  full_can_be_written fits limits played =
      can_be_written p plan closed played.history fits limits played.stops.legal played.stops.few (full_count played) played.logs

-- and the merged list is that of the definition
pub merged_list : (closed : ClosedView) (history : List Entry) → LogsOf history closed → merged closed ≡ history
merged_list = merged_history

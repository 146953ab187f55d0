-- The one list that closed logs come to: at each position the entry that some log has there.
use Rattle.std.specs.Prelude.{◌<◌, ◌^◌, ℕ, zero, suc, ◌==◌, cond, max, All, List, [], ◌∷◌, length, None, Option, Some}
use Rattle.std.specs.Option.{option_or}
use Rattle.round_model.specs.declared.entry.Entry.{Entry}
use Rattle.core_state.specs.declared.logged.Logged.{Logged}
use Rattle.core_state.specs.Logs.{LogsOf, after_last}
use Rattle.core_state.specs.Views.{ClosedView, CoreView}
use Rattle.sched_history.specs.Lines.{entry_lines}
use Rattle.sched_history.specs.Ranges.{IsCoreCount, IsPrintableLine}
use Rattle.sched_history.specs.Spelling.{lines_of_history, second_form}

-- the entry that the log has at that position
abbrev pub entry_in : ℕ → List Logged → Option Entry
entry_in at [] = None
entry_in at (l ∷ log) = cond (l.at == at) (Some l.entry) (entry_in at log)

-- the entry that the first of these cores' logs has there which has one
abbrev pub entry_of_cores : ℕ → List CoreView → Option Entry
entry_of_cores at [] = None
entry_of_cores at (y ∷ ys) = option_or (entry_in at y.log) (entry_of_cores at ys)

-- the entry that some log has there
abbrev pub entry_of : ClosedView → ℕ → Option Entry
entry_of closed at = option_or (entry_in at closed.rounds) (entry_of_cores at closed.cores)

-- the position behind the last entry of all these cores' logs
abbrev pub behind_cores : List CoreView → ℕ
behind_cores [] = 0
behind_cores (y ∷ ys) = max (after_last 0 y.log) (behind_cores ys)

-- the number of entries
abbrev pub count_of : ClosedView → ℕ
count_of closed = max (after_last 0 closed.rounds) (behind_cores closed.cores)

-- an entry before others, where there is one
abbrev pub before : Option Entry → List Entry → List Entry
before None entries = entries
before (Some e) entries = e ∷ entries

-- the entries of so many positions, from that one on
abbrev pub merged_from : ClosedView → ℕ → ℕ → List Entry
merged_from closed at zero = []
merged_from closed at (suc count) = before (entry_of closed at) (merged_from closed (suc at) count)

-- the entries of all positions
unfoldable pub merged : ClosedView → List Entry
merged closed = merged_from closed 0 (count_of closed)

-- the logs are those of one history, which has fewer than 2^32 entries
abbrev pub AreLogsOfFew : ClosedView → Type 0
AreLogsOfFew closed = (history : List Entry) × LogsOf history closed × (length history < 2 ^ 32)

-- and each of its entries can be printed for as many cores as there are
pub record CanBeWritten (closed : ClosedView) : Type 0 where
  pub logs : AreLogsOfFew closed
  pub count : IsCoreCount (length closed.cores)
  pub lines : All IsPrintableLine (entry_lines 0 (second_form (length closed.cores)) (merged closed))

-- the lines of that history's text
abbrev pub text_lines : ClosedView → List (List ℕ)
text_lines closed = lines_of_history (length closed.cores) (merged closed)

-- Where the cursors stand in the logs.
use Rattle.std.specs.Prelude.{◌≡◌, ℕ, List, Some, length, nat_lt, slice_get, slice_index}
use Rattle.std.specs.List.{prefix_len}
use Rattle.sched_base.specs.declared.limits.TheConstants.{MAX_CORES}
use Rattle.core_state.specs.declared.logged.Logged.{Logged}
use Rattle.core_state.specs.Views.{ClosedView, CoreView}

-- of each core's log the number of entries that were passed, by the core's number, and of the log of rounds
pub record CursorsView : Type 0 where
  pub cores : List ℕ
  pub rounds : ℕ

-- how many entries at the front of the log stand before that position
abbrev pub passed : ℕ → List Logged → ℕ
passed at log = prefix_len (λ (l : Logged). nat_lt l.at at) log

-- each cursor has passed just the entries that stand before that position; there is one for each core that can be
pub record StandAt (closed : ClosedView) (at : ℕ) (cursors : CursorsView) : Type 0 where
  pub cores : (c : ℕ) (y : CoreView) → slice_get closed.cores c ≡ Some y → slice_index cursors.cores c ≡ passed at y.log
  pub rounds : cursors.rounds ≡ passed at closed.rounds
  pub room : length cursors.cores ≡ MAX_CORES

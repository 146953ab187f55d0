-- What is found by a walk along a line.
use Rattle.std.specs.Prelude.{◌≡◌, ℕ, List, All, find, remove, slice_get, Some, None, option_map}
use Rattle.sched_base.specs.declared.task.Task.{Task}
use Rattle.policy_tree.specs.Meaning.{KeyTree}
use Rattle.policy_eval.specs.Evaluable.{IsEvaluableOrder}
use Rattle.policy_eval.specs.Orders.{best_and_rest, best_of}
use Rattle.run_queue.specs.declared.line.Spot.{Spot}
use Rattle.run_queue.specs.Code.Lines.{Cell, spot_at, tasks_of}
use Rattle.run_queue.specs.Tasks.{IsSeenTask, before, is_thread, without_first}

-- the keys can be evaluated for each of the tasks
pub record CanScan (keys : List KeyTree) (tasks : List Task) : Type 0 where
  pub order : IsEvaluableOrder keys
  pub each : All IsSeenTask tasks

-- the best of the tasks stands there
pub record IsBestSpot (keys : List KeyTree) (cells : List Cell) (spot : Spot) : Type 0 where
  pub place : ℕ
  pub there : spot_at cells place ≡ Some spot
  pub best : best_of (before keys) (tasks_of cells) ≡ slice_get (tasks_of cells) place
  pub rest : best_and_rest (before keys) (tasks_of cells)
      ≡ option_map (λ t. (t, remove (tasks_of cells) place)) (slice_get (tasks_of cells) place)

-- the earliest task of that number stands there
pub record IsThreadSpot (id : ℕ) (cells : List Cell) (spot : Spot) : Type 0 where
  pub place : ℕ
  pub there : spot_at cells place ≡ Some spot
  pub found : find (is_thread id) (tasks_of cells) ≡ slice_get (tasks_of cells) place
  pub rest : without_first (is_thread id) (tasks_of cells) ≡ remove (tasks_of cells) place

-- no task has that number
pub record HasNoThread (id : ℕ) (cells : List Cell) : Type 0 where
  pub found : find (is_thread id) (tasks_of cells) ≡ None
  pub rest : without_first (is_thread id) (tasks_of cells) ≡ tasks_of cells

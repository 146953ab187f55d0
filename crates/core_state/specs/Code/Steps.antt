-- The steps of one unit of work, as the code takes them.
use Rattle.std.specs.Prelude.{◌≡◌, ◌<◌, [], length, None, Some, Contains}
use Rattle.sched_base.specs.declared.task.Task.{Task}
use Rattle.policy_tree.specs.Meaning.{Meaning}
use Rattle.round_model.specs.Bounds.{standing_count}
use Rattle.round_model.specs.Cores.{tasks_of}
use Rattle.round_model.specs.Work.{elected}
use Rattle.core_state.specs.Views.{CoreView}

-- the task was taken out of the core to run a unit: it is the one that the core elected, where no other was current
pub record TakesNext (old new : CoreView) (t : Task) : Type 0 where
  pub runs : (p : Meaning) → p.elect ≡ old.order → (elected p old.core).current ≡ Some t
  pub leaves : (p : Meaning) → p.elect ≡ old.order
      → new ≡ record old { core = record (elected p old.core) { current = None } }
  pub there : Contains (tasks_of old.core) t
  pub fewer_queued : length new.core.queue < standing_count old.core
  pub fewer_blocked : length new.core.blocked < standing_count old.core

-- no task is there to run
pub record HasNoNext (old new : CoreView) : Type 0 where
  pub current : old.core.current ≡ None
  pub queue : old.core.queue ≡ []
  pub same : new ≡ old

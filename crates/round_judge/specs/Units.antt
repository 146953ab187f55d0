-- A unit of work, as it is computed before anything changes.
use Rattle.std.specs.Prelude.{◌≡◌, ℕ, ◌+◌, ◌<◌, ◌^◌, ◌++◌, List, [], ◌∷◌, length, remove, Option, Some, None, IsSome}
use Rattle.sched_base.specs.declared.limits.TheConstants.{MAX_STOLEN}
use Rattle.sched_base.specs.declared.task.Task.{Task}
use Rattle.policy_tree.specs.declared.typed.Put.{Put}
use Rattle.policy_tree.specs.declared.typed.Put.TheVariants as put
use Rattle.policy_tree.specs.Meaning.{Meaning}
use Rattle.policy_eval.specs.Fitting.{IsTask}
use Rattle.round_model.specs.declared.entry.Did.{Did}
use Rattle.round_model.specs.declared.entry.Did.TheVariants as did
use Rattle.round_model.specs.declared.plan.Plan.{Plan}
use Rattle.round_model.specs.declared.state.ModelCore.{ModelCore}
use Rattle.round_model.specs.Moves.{with_task}
use Rattle.round_model.specs.Programs.{burst_of}
use Rattle.round_model.specs.Work.{Worked, did_of, elected, worked}
use Rattle.round_judge.specs.declared.unit.Unit.{Unit as WorkUnit}
use Rattle.round_judge.specs.declared.unit.Unit.TheVariants as unit

-- there is room in each list of the core for a task more, and in its queue for as many as one steal moves
pub record IsSmallCore (core : ModelCore) : Type 0 where
  pub queue : length core.queue + MAX_STOLEN < 2 ^ 32
  pub blocked : length core.blocked + 1 < 2 ^ 32

-- the core without the task that runs: the current one, or the one in that place of the queue
abbrev pub without : Option ℕ → ModelCore → ModelCore
without None core = record core { current = None }
without (Some at) core = record core { current = None; queue = remove core.queue at }

-- the core with the task at the end of the list that it is put to
abbrev pub with_listed : Put → ℕ → Task → ModelCore → ModelCore
with_listed put.Queue wake t core = record core { queue = core.queue ++ t ∷ [] }
with_listed put.Keep wake t core = core
with_listed put.Block wake t core = record core { blocked = core.blocked ++ record { task = t; wake = wake } ∷ [] }

-- a task stands there: in that place of the queue, or as the current one
abbrev pub HasTask : Option ℕ → ModelCore → Type 0
HasTask None core = IsSome core.current
HasTask (Some at) core = at < length core.queue

-- the task of the unit stands at the core
abbrev pub Stands : ModelCore → WorkUnit → Type 0
Stands core unit.Idle = Unit {0}
Stands core unit.Stuck = Unit {0}
Stands core (unit.Met place t put wake) = HasTask place core
Stands core (unit.Over place id) = HasTask place core

abbrev pub core_after_unit : ModelCore → WorkUnit → ModelCore
core_after_unit core unit.Idle = core
core_after_unit core unit.Stuck = core
core_after_unit core (unit.Met place t put wake) = with_task put wake t (without place core)
core_after_unit core (unit.Over place id) = without place core

-- what may be said of the unit
abbrev pub dids_of_unit : WorkUnit → List Did
dids_of_unit unit.Idle = did.Nothing ∷ []
dids_of_unit unit.Stuck = []
dids_of_unit (unit.Met place t put wake) = did_of t.id (t, put) ∷ []
dids_of_unit (unit.Over place id) = did.Ended id ∷ []

-- what the unit leaves
abbrev pub left_by : ModelCore → WorkUnit → Worked
left_by core u = record { core = core_after_unit core u; dids = dids_of_unit u }

-- the task that is to run has no burst in the plan, and nothing is said of it
pub record IsStuck (p : Meaning) (plan : Plan) (round : ℕ) (core : ModelCore) : Type 0 where
  pub dids : (worked p plan round core).dids ≡ []
  pub task : Task
  pub runs : (elected p core).current ≡ Some task
  pub lacks : burst_of plan task ≡ None

-- the unit is the one that the core runs in that round
abbrev pub IsUnit : Meaning → Plan → ℕ → ModelCore → WorkUnit → Type 0
IsUnit p plan round core unit.Idle = worked p plan round core ≡ left_by core unit.Idle
IsUnit p plan round core unit.Stuck = IsStuck p plan round core
IsUnit p plan round core (unit.Met place t put wake) =
    (worked p plan round core ≡ left_by core (unit.Met place t put wake)) × HasTask place core × IsTask p t
IsUnit p plan round core (unit.Over place id) =
    (worked p plan round core ≡ left_by core (unit.Over place id)) × HasTask place core

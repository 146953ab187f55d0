-- The steps by which a unit of work is found: which task runs, and what it comes to.
use Rattle.std.specs.Prelude.{◌≡◌, ℕ, Option, Some, None}
use Rattle.sched_base.specs.declared.task.Task.{Task}
use Rattle.policy_tree.specs.declared.typed.Event.{Event}
use Rattle.policy_tree.specs.Meaning.{Meaning}
use Rattle.policy_eval.specs.Fitting.{IsTask}
use Rattle.round_model.specs.declared.state.ModelCore.{ModelCore}
use Rattle.round_model.specs.Work.{elected, met}
use Rattle.round_judge.specs.declared.unit.Unit.{Unit as WorkUnit}
use Rattle.round_judge.specs.declared.unit.Unit.TheVariants as unit
use Rattle.round_judge.specs.Units.{HasTask, left_by, without}

-- the task is the one that the core runs, and where it stands
pub record Runs (p : Meaning) (core : ModelCore) (place : Option ℕ) (t : Task) : Type 0 where
  pub runs : (elected p core).current ≡ Some t
  pub leaves : record (elected p core) { current = None } ≡ without place core
  pub there : HasTask place core
  pub task : IsTask p t

-- the unit of a task that meets the event, taken from its place
abbrev pub IsMet : Meaning → ModelCore → Option ℕ → Task → Event → ℕ → WorkUnit → Type 0
IsMet p core place t e wake unit.Idle = ⊥
IsMet p core place t e wake unit.Stuck = ⊥
IsMet p core place t e wake (unit.Met at x put until) =
    (at ≡ place) × (met p e wake t (without place core) ≡ left_by core (unit.Met place x put until)) × IsTask p x
IsMet p core place t e wake (unit.Over at id) = ⊥

-- Every thread that stands at a core has a burst to run next, and a unit of it is left.
use Rattle.std.specs.Prelude.{ℕ, ◌<◌, List, All, IfSome, Option, Some, None}
use Rattle.sched_base.specs.declared.task.Place.{Place}
use Rattle.sched_base.specs.declared.task.Task.{Task}
use Rattle.policy_tree.specs.Meaning.{Meaning}
use Rattle.round_model.specs.declared.entry.Entry.{Entry}
use Rattle.round_model.specs.declared.plan.Burst.{Burst}
use Rattle.round_model.specs.declared.plan.Plan.{Plan}
use Rattle.round_model.specs.declared.state.Blocked.{Blocked}
use Rattle.round_model.specs.declared.state.ModelCore.{ModelCore}
use Rattle.round_model.specs.After.{after}
use Rattle.round_model.specs.Fits.{Fits}
use Rattle.round_model.specs.Programs.{burst_of}

-- the place lies in the burst: a unit is left
abbrev pub LiesIn : Place → Option Burst → Type 0
LiesIn place None = ⊥
LiesIn place (Some b) = place.done < b.units

-- the plan has the burst that the thread runs next, and the thread's place lies in it
abbrev pub HasBurst : Plan → Task → Type 0
HasBurst plan t = LiesIn t.place (burst_of plan t)

-- each thread of the core has one
pub record HaveBursts (plan : Plan) (core : ModelCore) : Type 0 where
  pub current : IfSome core.current (HasBurst plan)
  pub queue : All (HasBurst plan) core.queue
  pub blocked : All (λ (b : Blocked). HasBurst plan b.task) core.blocked

-- so it is after every history, legal or not
abbrev pub BurstsLaw : Type 0
BurstsLaw = (p : Meaning) (plan : Plan) (history : List Entry) (c : ℕ) → Fits p plan →
    HaveBursts plan (after p plan history c)

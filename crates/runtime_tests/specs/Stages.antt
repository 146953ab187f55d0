-- The moments of one core and another, as a person works them out.
use Rattle.std.specs.Prelude.{◌≡◌, ℕ, ◌≤◌, List, [], ◌∷◌, None, Option, Some}
use Rattle.sched_base.specs.declared.task.Task.{Task}
use Rattle.policy_eval.specs.Sights.{no_attributes}
use Rattle.round_model.specs.declared.plan.Ending.TheVariants as ending
use Rattle.round_model.specs.declared.plan.Plan.{Plan}
use Rattle.round_model.specs.declared.state.Blocked.{Blocked}
use Rattle.round_model.specs.Bounds.{CoreInBounds}
use Rattle.round_model.specs.Bursts.{HaveBursts}
use Rattle.round_model.specs.Cores.{load_of, thread_count}
use Rattle.round_model.specs.Work.{core_after_work}
use Rattle.core_state.specs.Views.{CoreView, HasRoomForAll}
use Rattle.model_tests.specs.Plans.{endless, plan_of, run, thread}
use Rattle.model_tests.specs.Policies.{basic}

-- thread 1 blocks for a round after its first unit and ends with its second, thread 2 has no end
abbrev pub one_blocks : Plan
one_blocks = plan_of 2 2 (thread 1 1 (run 1 (ending.Block 1) ∷ run 1 ending.End ∷ []) ∷ endless 2 ∷ []) []

-- a thread of weight 1 that is to run that burst
abbrev pub at_burst : (id burst : ℕ) → Task
at_burst id burst = record { id = id; weight = 1; attrs = no_attributes; place = record { burst = burst; done = 0 } }

-- thread 1, blocked in round 1
abbrev pub blocked_one : Blocked
blocked_one = record { task = at_burst 1 1; wake = 2 }

-- a core with these threads and an empty log
abbrev pub stage : Option Task → List Task → List Blocked → CoreView
stage current queue blocked = record {
  core = record { current = current; queue = queue; blocked = blocked; consts = no_attributes };
  log = [];
  order = [];
  room = 2;
  blocked_room = 2;
  log_room = 8192;
}

-- no thread yet, or no more
abbrev pub empty : CoreView
empty = stage None [] []

-- both threads came
abbrev pub both_queued : CoreView
both_queued = stage None (at_burst 1 0 ∷ at_burst 2 0 ∷ []) []

-- thread 1 blocked
abbrev pub one_blocked : CoreView
one_blocked = stage None (at_burst 2 0 ∷ []) (blocked_one ∷ [])

-- thread 2 left
abbrev pub two_left : CoreView
two_left = stage None [] (blocked_one ∷ [])

-- thread 1 woke
abbrev pub one_woke : CoreView
one_woke = stage None (at_burst 1 1 ∷ []) []

-- thread 2 came to the other core, and then it runs there
abbrev pub two_came : CoreView
two_came = stage None (at_burst 2 0 ∷ []) []

abbrev pub two_runs : CoreView
two_runs = stage (Some (at_burst 2 0)) [] []

-- the core may run a unit under the plan and the basic policy
pub record IsReady (y : CoreView) : Type 0 where
  pub order : y.order ≡ []
  pub bounds : CoreInBounds basic y.core
  pub bursts : HaveBursts one_blocks y.core
  pub room : HasRoomForAll y

-- and then it is this
abbrev pub after_unit : ℕ → CoreView → CoreView
after_unit round y = record y { core = core_after_work basic one_blocks round y.core }

-- a few threads, so that they can be counted
pub record IsSmall (y : CoreView) : Type 0 where
  pub nr : thread_count y.core ≤ 2
  pub load : load_of y.core ≤ 2

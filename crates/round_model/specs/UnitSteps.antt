-- What is found on the way to a unit of work: the best task's place, and what the unit meets.
use Rattle.std.specs.Prelude.{◌≡◌, ℕ, ◌<◌, List, [], length, remove, slice_get, None, option_map}
use Rattle.sched_base.specs.declared.task.Task.{Task}
use Rattle.policy_tree.specs.Meaning.{KeyTree}
use Rattle.policy_eval.specs.Orders.{best_and_rest, best_of}
use Rattle.policy_eval.specs.Ranges.{AreIn, wide_ranges}
use Rattle.policy_eval.specs.Sights.{thread_values}
use Rattle.round_model.specs.declared.state.ModelCore.{ModelCore}
use Rattle.round_model.specs.declared.programs.Meeting.{Meeting as UnitMeeting}
use Rattle.round_model.specs.declared.programs.Meeting.TheVariants as meeting
use Rattle.round_model.specs.Programs.{Meeting, blocking, ending_now, tick, yielding}
use Rattle.round_model.specs.Work.{before}

-- the task can be compared by the keys of an order
abbrev pub IsSeenTask : Task → Type 0
IsSeenTask t = AreIn wide_ranges (thread_values t.weight t.attrs)

-- the best of the tasks stands in that place
pub record IsBestPlace (keys : List KeyTree) (tasks : List Task) (at : ℕ) : Type 0 where
  pub inside : at < length tasks
  pub best : best_of (before keys) tasks ≡ slice_get tasks at
  pub rest : best_and_rest (before keys) tasks ≡ option_map (λ t. (t, remove tasks at)) (slice_get tasks at)

-- nothing is there to run
pub record IsIdleCore (core : ModelCore) : Type 0 where
  pub current : core.current ≡ None
  pub queue : core.queue ≡ []

-- the meeting, as the code names it
abbrev pub IsMeeting : Meeting → UnitMeeting → Type 0
IsMeeting m meeting.Tick = m ≡ tick
IsMeeting m meeting.Yield = m ≡ yielding
IsMeeting m (meeting.Block rounds) = m ≡ blocking rounds
IsMeeting m meeting.End = m ≡ ending_now

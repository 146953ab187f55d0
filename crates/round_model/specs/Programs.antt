-- The programs of threads: what a unit leads to, and how a thread begins.
use Rattle.std.specs.Prelude.{ℕ, ◌+◌, ◌-◌, ◌==◌, nat_le, ℤ, pos, Bool, true, false, not, ◌&&◌, cond, List, ◌++◌, map}
use Rattle.std.specs.Prelude.{length, replicate, find, slice_get, Option, option_and_then}
use Rattle.sched_base.specs.declared.limits.TheConstants.{MAX_ATTRIBUTES}
use Rattle.sched_base.specs.declared.task.Place.{Place}
use Rattle.sched_base.specs.declared.task.Task.{Task}
use Rattle.policy_tree.specs.declared.typed.Attr.{Attr}
use Rattle.policy_tree.specs.Meaning.{Meaning}
use Rattle.round_model.specs.declared.plan.Burst.{Burst}
use Rattle.round_model.specs.declared.plan.Ending.{Ending}
use Rattle.round_model.specs.declared.plan.Ending.TheVariants as ending
use Rattle.round_model.specs.declared.plan.Plan.{Plan}
use Rattle.round_model.specs.declared.plan.Planned.{Planned}

-- the thread of the plan with that number
abbrev pub planned_of : Plan → ℕ → Option Planned
planned_of plan id = find (λ (t : Planned). t.id == id) plan.threads

-- the burst that a thread runs next: none where the plan has no such thread or burst
abbrev pub burst_of : Plan → Task → Option Burst
burst_of plan t = option_and_then (λ (p : Planned). slice_get p.bursts t.place.burst) (planned_of plan t.id)

abbrev pub is_endless : Ending → Bool
is_endless ending.Yield = false
is_endless (ending.Block rounds) = false
is_endless ending.End = false
is_endless ending.Forever = true

-- whether the next unit is the last of the burst
abbrev pub is_last_unit : Burst → Place → Bool
is_last_unit b at = not (is_endless b.ending) && nat_le b.units (at.done + 1)

-- what a thread meets after a unit
pub data Meeting : Type 0 where
  tick : Meeting
  yielding : Meeting
  blocking : ℕ → Meeting
  ending_now : Meeting

-- what follows a burst
abbrev pub meeting_at_end : Ending → Meeting
meeting_at_end ending.Yield = yielding
meeting_at_end (ending.Block rounds) = blocking rounds
meeting_at_end ending.End = ending_now
meeting_at_end ending.Forever = tick

-- what the thread meets after its next unit
abbrev pub meeting_of : Burst → Place → Meeting
meeting_of b at = cond (is_last_unit b at) (meeting_at_end b.ending) tick

-- where the thread stands after its next unit: in a burst without end it stays where it is
abbrev pub place_after : Burst → Place → Place
place_after b at =
    cond (is_endless b.ending) at
    (cond (is_last_unit b at) (record { burst = at.burst + 1; done = 0 }) (record at { done = at.done + 1 }))

abbrev pub start_of : Attr → ℤ
start_of a = a.start

-- the attribute values with which every thread begins
abbrev pub starting_attrs : Meaning → List ℤ
starting_attrs p = map start_of p.thread_attrs ++ replicate (MAX_ATTRIBUTES - length p.thread_attrs) (pos 0)

-- the thread as it enters
abbrev pub entering_task : Meaning → Planned → Task
entering_task p t =
    record { id = t.id; weight = t.weight; attrs = starting_attrs p; place = record { burst = 0; done = 0 } }

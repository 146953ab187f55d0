-- One unit of work of a core.
use Rattle.std.specs.Prelude.{ℕ, ◌+◌, Bool, false, List, [], ◌∷◌, map, Option, Some, None, Contains}
use Rattle.sched_base.specs.declared.task.Task.{Task}
use Rattle.policy_tree.specs.declared.typed.Event.{Event}
use Rattle.policy_tree.specs.declared.typed.Event.TheVariants as event
use Rattle.policy_tree.specs.declared.typed.Put.{Put}
use Rattle.policy_tree.specs.declared.typed.Put.TheVariants as put
use Rattle.policy_tree.specs.Meaning.{KeyTree, Meaning}
use Rattle.policy_eval.specs.Events.{outcomes_of}
use Rattle.policy_eval.specs.Orders.{best_and_rest, precedes}
use Rattle.policy_eval.specs.Sights.{thread_values}
use Rattle.round_model.specs.declared.entry.Did.{Did}
use Rattle.round_model.specs.declared.entry.Did.TheVariants as did
use Rattle.round_model.specs.declared.plan.Burst.{Burst}
use Rattle.round_model.specs.declared.plan.Plan.{Plan}
use Rattle.round_model.specs.declared.state.ModelCore.{ModelCore}
use Rattle.round_model.specs.Moves.{core_after_event}
use Rattle.round_model.specs.Programs.{Meeting, blocking, burst_of, ending_now, meeting_of, place_after, tick, yielding}

-- whether the first of two threads comes strictly before the second
abbrev pub before : List KeyTree → Task → Task → Bool
before keys a b = precedes keys (thread_values a.weight a.attrs) (thread_values b.weight b.attrs)

-- the core whose best queued thread became current
abbrev pub with_current : ModelCore → Option (Task × List Task) → ModelCore
with_current core None = core
with_current core (Some best) = record core { current = Some best.0; queue = best.1 }

-- the core after it elected: a current thread stays
abbrev pub elected_over : Meaning → ModelCore → Option Task → ModelCore
elected_over p core None = with_current core (best_and_rest (before p.elect) core.queue)
elected_over p core (Some t) = core

abbrev pub elected : Meaning → ModelCore → ModelCore
elected p core = elected_over p core core.current

-- what a unit leaves: the core, and what may be said of the thread that ran. One case that holds gives one word
pub record Worked : Type 0 where
  pub core : ModelCore
  pub dids : List Did

-- the word for where a thread was put
abbrev pub did_of : ℕ → Task × Put → Did
did_of id (t, put.Queue) = did.Queued id
did_of id (t, put.Keep) = did.Kept id
did_of id (t, put.Block) = did.Blocked id

-- the thread, taken from its place, meets an event
abbrev pub met : Meaning → Event → ℕ → Task → ModelCore → Worked
met p e wake t core = record {
  core = core_after_event p e false wake t core;
  dids = map (did_of t.id) (outcomes_of p e false core.consts t);
}

-- what comes of a unit in that round
abbrev pub after_meeting : Meaning → ℕ → Meeting → Task → ModelCore → Worked
after_meeting p round tick t core = met p event.Tick 0 t core
after_meeting p round yielding t core = met p event.Yield 0 t core
after_meeting p round (blocking rounds) t core = met p event.Block (round + rounds) t core
after_meeting p round ending_now t core = record { core = core; dids = did.Ended t.id ∷ [] }

-- a unit of the current thread. Of a thread without a burst nothing is said, and nothing happens
abbrev pub after_unit : Meaning → ℕ → ModelCore → Task → Option Burst → Worked
after_unit p round core t None = record { core = core; dids = [] }
after_unit p round core t (Some b) =
    let ran : Task = record t { place = place_after b t.place } in
    after_meeting p round (meeting_of b t.place) ran (record core { current = None })

-- a unit of the core, once it has elected
abbrev pub run_over : Meaning → Plan → ℕ → ModelCore → Option Task → Worked
run_over p plan round core None = record { core = core; dids = did.Nothing ∷ [] }
run_over p plan round core (Some t) = after_unit p round core t (burst_of plan t)

-- one unit of work of the core in that round
unfoldable pub worked : Meaning → Plan → ℕ → ModelCore → Worked
worked p plan round core = run_over p plan round (elected p core) (elected p core).current

-- the core after the work
abbrev pub core_after_work : Meaning → Plan → ℕ → ModelCore → ModelCore
core_after_work p plan round core = (worked p plan round core).core

-- what the entry says of the thread is what became of it
abbrev pub IsOutcomeOfWork : Meaning → Plan → ℕ → ModelCore → Did → Type 0
IsOutcomeOfWork p plan round core d = Contains (worked p plan round core).dids d

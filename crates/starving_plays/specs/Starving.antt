-- A thread that waits for ever: a history of one core comes back to where it was, and the thread hasn't run between.
use Rattle.std.specs.Prelude.{◌≡◌, ℕ, ◌<◌, ◌==◌, ◌&&◌, Bool, true, false, not, List, [], Option, Some, None}
use Rattle.std.specs.Prelude.{All, find, option_map, take}
use Rattle.std.specs.List.{list_any}
use Rattle.sched_base.specs.declared.task.Task.{Task}
use Rattle.policy_tree.specs.Meaning.{Meaning}
use Rattle.round_model.specs.declared.entry.Entry.{Entry}
use Rattle.round_model.specs.declared.entry.Entry.TheVariants as entry
use Rattle.round_model.specs.declared.plan.Plan.{Plan}
use Rattle.round_model.specs.declared.plan.Planned.{Planned}
use Rattle.round_model.specs.declared.state.ModelCore.{ModelCore}
use Rattle.round_model.specs.After.{after}
use Rattle.round_model.specs.Rounds.{BeginsAt}
use Rattle.waiting_laws.specs.Waiting.{RunsIn, WaitsAt, thread_of}
use Rattle.starving_plays.specs.declared.coming_back.TheConstants.{WATCHED_FROM}

-- the core is that one, and nobody is blocked there
abbrev pub IsThatCore : ModelCore → ModelCore → Type 0
IsThatCore core that = (core ≡ that) × (that.blocked ≡ [])

-- the plan has one core, and all its threads come before the round from whose beginning on it is watched
pub record IsLoneCrowd (plan : Plan) : Type 0 where
  pub alone : plan.cores ≡ 1
  pub early : All (λ (t : Planned). t.round < WATCHED_FROM) plan.threads

module _ (p : Meaning) (plan : Plan) (history : List Entry) where
  -- as that round begins, after so many entries, its core is as it was when the watched round began, and nobody is
  -- blocked there
  pub record ComesBack (low number at : ℕ) : Type 0 where
    pub begins : BeginsAt history WATCHED_FROM low
    pub again : BeginsAt history number at
    pub later : WATCHED_FROM < number
    pub back : IsThatCore (after p plan (take at history) 0) (after p plan (take low history) 0)

  -- and this thread, which waited when the watched round began, hasn't run between
  pub record Starves (thread number : ℕ) : Type 0 where
    pub low : ℕ
    pub at : ℕ
    pub comes_back : ComesBack low number at
    pub place : ℕ
    pub waits : WaitsAt p plan history thread 0 place low
    pub hungry : ¬ RunsIn history thread 0 low at

-- whether it is that thread
abbrev pub is_that_thread : ℕ → Option ℕ → Bool
is_that_thread thread None = false
is_that_thread thread (Some found) = found == thread

-- whether core 0 runs a unit of the thread in the entry
abbrev pub runs : ℕ → Entry → Bool
runs thread (entry.Round number) = false
runs thread (entry.Enter other by at reads) = false
runs thread (entry.Wake other by at reads) = false
runs thread (entry.Work by what) = (by == 0) && is_that_thread thread (thread_of what)
runs thread (entry.Steal by from threads reads) = false
runs thread (entry.Fail by from reads) = false
runs thread (entry.Pass by reads) = false

-- whether the thread runs in none of the entries
abbrev pub is_hungry : List Entry → Task → Bool
is_hungry entries t = not (list_any (runs t.id) entries)

-- the first of these threads that runs in none of the entries
abbrev pub first_hungry : List Task → List Entry → Option ℕ
first_hungry queue entries = option_map (λ (t : Task). t.id) (find (is_hungry entries) queue)

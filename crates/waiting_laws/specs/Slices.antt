-- The law of slices: where a thread keeps its core only as long as an attribute of it falls, the attribute's range
-- bounds how many units go by before the next that waits gets the core.
use Rattle.std.specs.Prelude.{◌≡◌, ℕ, suc, ◌+◌, ◌*◌, ◌<◌, ◌≤◌, ◌⊎◌, ℤ, pos, ◌+ℤ◌, ◌<ℤ◌, List, [], take, All}
use Rattle.std.specs.Prelude.{IfSome, Some, false, option_map, slice_get, slice_index_or}
use Rattle.sched_base.specs.declared.task.Task.{Task}
use Rattle.policy_tree.specs.declared.typed.Event.TheVariants as event
use Rattle.policy_tree.specs.declared.typed.Put.TheVariants as put
use Rattle.policy_tree.specs.Meaning.{CaseTree, Meaning, cases_on}
use Rattle.policy_eval.specs.Events.{seen_by_handler, task_after_case}
use Rattle.policy_eval.specs.Fitting.{IsTask}
use Rattle.policy_eval.specs.Ranges.{AreIn, attribute_ranges, declared_range, range}
use Rattle.policy_eval.specs.Values.{Holds}
use Rattle.round_model.specs.declared.entry.Entry.{Entry}
use Rattle.round_model.specs.declared.plan.Plan.{Plan}
use Rattle.round_model.specs.declared.state.ModelCore.{ModelCore}
use Rattle.round_model.specs.After.{after}
use Rattle.round_model.specs.Fits.{Fits}
use Rattle.round_model.specs.Legal.{Legal}
use Rattle.round_model.specs.Rounds.{BeginsAt}
use Rattle.waiting_laws.specs.Waiting.{IsUnstolen, RunsIn, WaitsAt, units_of}

-- the thread's value of that attribute
abbrev pub value_in : ℕ → Task → ℤ
value_in a t = slice_index_or t.attrs a (pos 0)

-- if the case keeps a thread whose numbers lie in their ranges, it lowers the attribute
abbrev pub LowersIfKeeping : Meaning → ℕ → CaseTree → Type 0
LowersIfKeeping p a c = c.put ≡ put.Keep
    → (consts : List ℤ) (t : Task) → AreIn (attribute_ranges p.core_attrs) consts → IsTask p t
    → Holds (seen_by_handler false consts t) c.guard → value_in a (task_after_case p false consts t c) <ℤ value_in a t

-- the policy elects the first that waits; on tick and on yield a case that keeps its thread lowers that attribute,
-- whose upper end is as many numbers above `low`, its lower end, as `keeps` says. A case that doesn't keep it queues it
pub record KeepsInSlices (p : Meaning) (a : ℕ) (low : ℤ) (keeps : ℕ) : Type 0 where
  pub first : p.elect ≡ []
  pub reaches : option_map declared_range (slice_get p.thread_attrs a) ≡ Some (range low (low +ℤ pos keeps))
  pub after_tick : All (LowersIfKeeping p a) (cases_on p.handlers event.Tick)
  pub after_yield : All (LowersIfKeeping p a) (cases_on p.handlers event.Yield)

-- as many units are left to the current thread at most: its value is less than `low` and that many
abbrev pub HasLeft : (a : ℕ) (low : ℤ) → ModelCore → ℕ → Type 0
HasLeft a low core left = IfSome core.current (λ (t : Task). value_in a t <ℤ (low +ℤ pos left))

module _ (p : Meaning) (plan : Plan) (history : List Entry) (a : ℕ) (low : ℤ) (keeps : ℕ) where
  -- between entries a current thread has been kept, and it runs at most `keeps` units more
  abbrev pub KeepsAreFew : Type 0
  KeepsAreFew = (c k : ℕ) → c < plan.cores → HasLeft a low (after p plan (take k history) c) keeps

  -- until a thread that waits runs or is stolen, each unit of the core uses up one of those that are left to the
  -- current thread, and of one more than `keeps` for each that waits before it
  abbrev pub UnitsUseUp : Type 0
  UnitsUseUp = (x c place left from to : ℕ) → c < plan.cores → from ≤ to → WaitsAt p plan history x c place from
      → HasLeft a low (after p plan (take from history) c) left → IsUnstolen history x c from to
      → RunsIn history x c from to
      ⊎ ((ahead rest : ℕ) × (rest + ahead * suc keeps + units_of history c from to ≤ left + place * suc keeps)
      × WaitsAt p plan history x c ahead to × HasLeft a low (after p plan (take to history) c) rest)

  -- so a thread that isn't stolen runs among as many slices of the core as its place says, and one more, each of
  -- `keeps` units and one
  abbrev pub RunsInSlices : Type 0
  RunsInSlices = (x c place from to : ℕ) → c < plan.cores → WaitsAt p plan history x c place from
      → IsUnstolen history x c from to → suc place * suc keeps ≤ units_of history c from to → RunsIn history x c from to

  -- and counted in rounds, each of which has a unit of each core
  abbrev pub RunsInRoundsOfSlices : Type 0
  RunsInRoundsOfSlices = (x c place first opening ending : ℕ) → c < plan.cores → BeginsAt history first opening
      → BeginsAt history (first + suc place * suc keeps) ending → WaitsAt p plan history x c place opening
      → IsUnstolen history x c opening ending → RunsIn history x c opening ending

  -- what holds of waiting in one history
  pub record WaitsInSlices : Type 0 where
    pub keeps_are_few : KeepsAreFew
    pub units_use_up : UnitsUseUp
    pub runs_in_slices : RunsInSlices
    pub runs_in_rounds : RunsInRoundsOfSlices

-- the law
abbrev pub SlicesLaw : Type 0
SlicesLaw = (p : Meaning) (plan : Plan) (history : List Entry) (a : ℕ) (low : ℤ) (keeps : ℕ) → Fits p plan
    → KeepsInSlices p a low keeps → Legal p plan history → WaitsInSlices p plan history a low keeps

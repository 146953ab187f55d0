-- The law of the least value: where a thread with the least value of an attribute is elected, and each unit raises it,
-- the values of the others say how many units a thread waits, as long as no thread comes.
use Rattle.std.specs.Prelude.{◌≡◌, ℕ, suc, ◌+◌, ◌<◌, ◌≤◌, ◌⊎◌, ℤ, pos, negsuc, ◌-ℤ◌, ◌<ℤ◌, List, [], ◌∷◌}
use Rattle.std.specs.Prelude.{length, take, sum_by, All, IsSomeAnd, Some, false, option_map, slice_get}
use mathlib.Core.Option.{some}
use lib.ListN.{get_elem?}
use Rattle.sched_base.specs.declared.task.Task.{Task}
use Rattle.policy_tree.specs.declared.typed.Event.TheVariants as event
use Rattle.policy_tree.specs.declared.variables.TheConstants.{THREAD_ATTRIBUTES}
use Rattle.policy_tree.specs.Meaning.{CaseTree, Meaning, cases_on, least_first}
use Rattle.policy_tree.specs.Trees.{variable}
use Rattle.policy_eval.specs.Events.{seen_by_handler, task_after_case}
use Rattle.policy_eval.specs.Fitting.{IsTask}
use Rattle.policy_eval.specs.Obligations.{MeetsHandlerObligations}
use Rattle.policy_eval.specs.Ranges.{AreIn, attribute_ranges, declared_range, range}
use Rattle.policy_eval.specs.Values.{Holds}
use Rattle.round_model.specs.declared.entry.Entry.{Entry}
use Rattle.round_model.specs.declared.entry.Entry.TheVariants as entry
use Rattle.round_model.specs.declared.plan.Plan.{Plan}
use Rattle.round_model.specs.After.{after}
use Rattle.round_model.specs.Fits.{Fits}
use Rattle.round_model.specs.Legal.{Legal}
use Rattle.round_model.specs.Rounds.{BeginsAt}
use Rattle.waiting_laws.specs.Slices.{value_in}
use Rattle.waiting_laws.specs.Waiting.{IsUnstolen, PutsToQueue, RunsIn, units_of}

-- the thread has come from the one value to a greater one, or to the upper end
abbrev pub IsRaised : ℤ → ℤ → ℤ → Type 0
IsRaised high old new = (old <ℤ new) ⊎ (new ≡ high)

-- the case raises the attribute of every thread whose numbers lie in their ranges
abbrev pub Raises : Meaning → ℕ → ℤ → CaseTree → Type 0
Raises p a high c = (consts : List ℤ) (t : Task) → AreIn (attribute_ranges p.core_attrs) consts → IsTask p t
    → Holds (seen_by_handler false consts t) c.guard
    → IsRaised high (value_in a t) (value_in a (task_after_case p false consts t c))

-- the policy elects a thread with the least value of that attribute, whose upper end is `high`; on tick and on yield it
-- raises the attribute and puts the thread to the queue's end
pub record ElectsLeast (p : Meaning) (a : ℕ) (low high : ℤ) : Type 0 where
  pub least : p.elect ≡ least_first (variable (THREAD_ATTRIBUTES + a)) ∷ []
  pub reaches : option_map declared_range (slice_get p.thread_attrs a) ≡ Some (range low high)
  pub tick_queues : All PutsToQueue (cases_on p.handlers event.Tick)
  pub tick_raises : All (Raises p a high) (cases_on p.handlers event.Tick)
  pub yield_queues : All PutsToQueue (cases_on p.handlers event.Yield)
  pub yield_raises : All (Raises p a high) (cases_on p.handlers event.Yield)

-- the number where it isn't negative, and else 0
abbrev pub at_least_zero : ℤ → ℕ
at_least_zero (pos n) = n
at_least_zero (negsuc n) = 0

-- by how much the thread's value is less than that one, and 0 where it isn't
abbrev pub lag : ℕ → ℤ → Task → ℕ
lag a u t = at_least_zero (u -ℤ value_in a t)

-- a thread comes to the core with this entry
abbrev pub BringsTo : ℕ → Entry → Type 0
BringsTo c (entry.Enter thread by at reads) = at ≡ c
BringsTo c (entry.Wake thread by at reads) = at ≡ c
BringsTo c (entry.Steal by from threads reads) = by ≡ c
BringsTo c e = ⊥

-- in none of the entries from one position up to another a thread comes to the core
abbrev pub NoneComes : List Entry → (c from to : ℕ) → Type 0
NoneComes history c from to = (k : ℕ) (e : Entry) → from ≤ k → k < to → get_elem? history k ≡ some e → ¬ BringsTo c e

-- the thread stands at that place of the queue and has that value
abbrev pub IsValued : ℕ → ℕ → ℤ → Task → Type 0
IsValued a x u t = (t.id ≡ x) × (value_in a t ≡ u)

module _ (p : Meaning) (plan : Plan) (history : List Entry) (a : ℕ) where
  -- after the first k entries the thread waits with that value at that place of the core's queue
  abbrev pub WaitsWith : (x c : ℕ) (u : ℤ) (place k : ℕ) → Type 0
  WaitsWith x c u place k = IsSomeAnd (slice_get (after p plan (take k history) c).queue place) (IsValued a x u)

  -- by how much the values of all that wait at the core are less than that one
  abbrev pub lags : (c : ℕ) → ℤ → ℕ → ℕ
  lags c u k = sum_by (lag a u) (after p plan (take k history) c).queue

  -- until a thread that waits runs or is stolen, or another comes, each unit of the core lessens the sum of its place
  -- and the lags
  abbrev pub UnitsLessenLags : Type 0
  UnitsLessenLags = (x c place from to : ℕ) (u : ℤ) → c < plan.cores → from ≤ to → WaitsWith x c u place from
      → IsUnstolen history x c from to → NoneComes history c from to
      → RunsIn history x c from to
      ⊎ ((ahead : ℕ) × (ahead + lags c u to + units_of history c from to ≤ place + lags c u from)
      × WaitsWith x c u ahead to)

  -- so it runs among one unit more than its place and the lags
  abbrev pub RunsByLags : Type 0
  RunsByLags = (x c place from to : ℕ) (u : ℤ) → c < plan.cores → WaitsWith x c u place from
      → IsUnstolen history x c from to → NoneComes history c from to
      → suc (place + lags c u from) ≤ units_of history c from to → RunsIn history x c from to

  -- so among as many units as threads wait there and the lags together: of itself one, of each other one more than it
  -- lags
  abbrev pub RunsByOthers : Type 0
  RunsByOthers = (x c place from to : ℕ) (u : ℤ) → c < plan.cores → WaitsWith x c u place from
      → IsUnstolen history x c from to → NoneComes history c from to
      → length (after p plan (take from history) c).queue + lags c u from ≤ units_of history c from to
      → RunsIn history x c from to

  -- and counted in rounds, each of which has a unit of each core
  abbrev pub RunsInRoundsByLags : Type 0
  RunsInRoundsByLags = (x c place first opening ending : ℕ) (u : ℤ) → c < plan.cores → BeginsAt history first opening
      → BeginsAt history (first + suc (place + lags c u opening)) ending → WaitsWith x c u place opening
      → IsUnstolen history x c opening ending → NoneComes history c opening ending → RunsIn history x c opening ending

  -- what holds of waiting in one history
  pub record WaitsByLags : Type 0 where
    pub units_lessen_lags : UnitsLessenLags
    pub runs_by_lags : RunsByLags
    pub runs_by_others : RunsByOthers
    pub runs_in_rounds : RunsInRoundsByLags

-- the law
abbrev pub LeastLaw : Type 0
LeastLaw = (p : Meaning) (plan : Plan) (history : List Entry) (a : ℕ) (low high : ℤ) → Fits p plan
    → MeetsHandlerObligations p → ElectsLeast p a low high → Legal p plan history → WaitsByLags p plan history a

-- The law "lowest first": where the filter looks at how far the victim is ahead, each restless round raises a core of
-- the least thread count. So restless rounds are fewer than the threads above that count at first.
use Rattle.std.specs.Prelude.{◌≡◌, ℕ, ◌+◌, ◌-◌, ◌/◌, ◌<◌, ◌≤◌, List, length, take, sum_by, All, ℤ, Option, None, Some}
use Rattle.std.specs.List.Sorted.{IsStrictlyIncreasing}
use mathlib.Core.Option.{some}
use lib.ListN.{get_elem?}
use Rattle.policy_tree.specs.Meaning.{BatchTree, Meaning}
use Rattle.policy_eval.specs.declared.env.CoreValues.{CoreValues}
use Rattle.policy_eval.specs.Fitting.{CoreFits, IsWeight}
use Rattle.policy_eval.specs.Obligations.{MoveNarrowsGap, RestGap}
use Rattle.policy_eval.specs.Ranges.{AreIn, attribute_ranges, greatest_weight, least_weight}
use Rattle.policy_eval.specs.Sights.{move_values, pair_values}
use Rattle.policy_eval.specs.Values.{Holds}
use Rattle.round_model.specs.declared.entry.Entry.{Entry}
use Rattle.round_model.specs.declared.entry.Entry.TheVariants as entry
use Rattle.round_model.specs.declared.plan.Plan.{Plan}
use Rattle.round_model.specs.After.{after}
use Rattle.round_model.specs.Cores.{Cores, core_numbers, thread_count}
use Rattle.round_model.specs.Fits.{Fits}
use Rattle.round_model.specs.Legal.{Legal}
use Rattle.round_model.specs.Rounds.{BeginsAt, IsStill, round_at}
use Rattle.round_model.specs.Stretches.{InStretch, IsStillStretch}
use Rattle.rest_laws.specs.Gap.{CountsWithin}
use Rattle.round_laws.specs.Rest.{IsRestless, MeetsMoveObligations, RestlessAt}

-- a core with as many threads or fewer sees whom another sees, as long as it is as far behind him
abbrev pub LowerSeesAsMuch : Meaning → Type 0
LowerSeesAsMuch p = (own victim lower seen : CoreValues) → CoreFits p own → CoreFits p victim → CoreFits p lower
    → CoreFits p seen → seen.consts ≡ victim.consts → Holds (pair_values own victim) p.filter
    → lower.nr ≤ own.nr → victim.nr + lower.nr ≤ seen.nr + own.nr → Holds (pair_values lower seen) p.filter

-- so does a core with two threads fewer than a thief whose batch goes on, also once that one has moved its thread.
-- Without a batch there is no such move
abbrev pub BatchLeavesSeen : Meaning → Option BatchTree → Type 0
BatchLeavesSeen p None = Unit {0}
BatchLeavesSeen p (Some batch) = (own victim lower seen : CoreValues) (weight : ℕ) (attrs : List ℤ) → CoreFits p own
    → CoreFits p victim → CoreFits p lower → CoreFits p seen → IsWeight p weight
    → AreIn (attribute_ranges p.thread_attrs) attrs → seen.consts ≡ victim.consts
    → Holds (move_values own victim weight attrs) batch.condition
    → 1 ≤ victim.nr → lower.nr + 2 ≤ own.nr → victim.nr ≤ seen.nr + 1 → Holds (pair_values lower seen) p.filter

-- all threads weigh the same, and the lower core sees as much
pub record LowestFirst (p : Meaning) : Type 0 where
  pub equal_weights : least_weight p.load ≡ greatest_weight p.load
  pub filter : LowerSeesAsMuch p
  pub batch : BatchLeavesSeen p p.batch

-- the same by single threads: whoever has as many threads sees the same cores
abbrev pub SeesWhoever : Meaning → Type 0
SeesWhoever p = (own victim other : CoreValues) → CoreFits p own → CoreFits p victim → CoreFits p other
    → Holds (pair_values own victim) p.filter → other.nr ≡ own.nr → Holds (pair_values other victim) p.filter

-- a victim is seen with a thread more
abbrev pub SeesMore : Meaning → Type 0
SeesMore p = (own victim more : CoreValues) → CoreFits p own → CoreFits p victim → CoreFits p more
    → more.consts ≡ victim.consts → Holds (pair_values own victim) p.filter → more.nr ≡ victim.nr + 1
    → Holds (pair_values own more) p.filter

-- and where each of the two has a thread fewer
abbrev pub SeesLower : Meaning → Type 0
SeesLower p = (own victim lower fewer : CoreValues) → CoreFits p own → CoreFits p victim → CoreFits p lower
    → CoreFits p fewer → fewer.consts ≡ victim.consts → Holds (pair_values own victim) p.filter
    → lower.nr + 1 ≡ own.nr → fewer.nr + 1 ≡ victim.nr → Holds (pair_values lower fewer) p.filter

-- where a batch goes on, its victim with a thread fewer is seen by a core with two threads fewer than the thief
abbrev pub BatchSeesLower : Meaning → Option BatchTree → Type 0
BatchSeesLower p None = Unit {0}
BatchSeesLower p (Some batch) = (own victim lower fewer : CoreValues) (weight : ℕ) (attrs : List ℤ) → CoreFits p own
    → CoreFits p victim → CoreFits p lower → CoreFits p fewer → IsWeight p weight
    → AreIn (attribute_ranges p.thread_attrs) attrs → fewer.consts ≡ victim.consts
    → Holds (move_values own victim weight attrs) batch.condition
    → lower.nr + 2 ≡ own.nr → fewer.nr + 1 ≡ victim.nr → Holds (pair_values lower fewer) p.filter

pub record StepsByOne (p : Meaning) : Type 0 where
  pub equal_weights : least_weight p.load ≡ greatest_weight p.load
  pub whoever : SeesWhoever p
  pub more : SeesMore p
  pub lower : SeesLower p
  pub batch : BatchSeesLower p p.batch

-- where a move narrows the gap, that is enough
abbrev pub StepsByOneLaw : Type 0
StepsByOneLaw = (p : Meaning) → MoveNarrowsGap p → StepsByOne p → LowestFirst p

-- each core has so many threads at least
abbrev pub EachHas : Plan → Cores → ℕ → Type 0
EachHas plan m low = (c : ℕ) → c < plan.cores → low ≤ thread_count (m c)

-- how many threads the cores have beyond so many each
unfoldable pub above : Plan → Cores → ℕ → ℕ
above plan m low = sum_by (λ c. thread_count (m c) - low) (core_numbers plan)

-- and a core's share of them, rounded up
abbrev pub share_above : Plan → Cores → ℕ → ℕ
share_above plan m low = (above plan m low + (plan.cores - 1)) / plan.cores

module _ (p : Meaning) (plan : Plan) (history : List Entry) where
  -- a steal of that round by a core with the fewest threads of all as they are then
  pub record LowestSteals (number : ℕ) : Type 0 where
    pub position : ℕ
    pub by : ℕ
    pub from : ℕ
    pub threads : List ℕ
    pub reads : List ℕ
    pub stands : get_elem? history position ≡ some (entry.Steal by from threads reads)
    pub in_round : round_at history position ≡ number
    pub least : EachHas plan (after p plan (take position history))
        (thread_count (after p plan (take position history) by))

  -- a restless and still round has such a steal
  abbrev pub RestlessRoundsRaise : Type 0
  RestlessRoundsRaise = (number : ℕ) → IsRestless p plan history number → IsStill history number number
      → LowestSteals number

  -- of a still stretch in which each core has so many threads at first, the restless rounds are at most the threads
  -- beyond those, less a core's share of them rounded up
  abbrev pub RestlessRoundsFew : Type 0
  RestlessRoundsFew = (first last opening low : ℕ) (restless : List ℕ) → IsStillStretch history first last
      → BeginsAt history first opening → EachHas plan (after p plan (take opening history)) low
      → IsStrictlyIncreasing restless
      → All (λ number. (first ≤ number) × (number ≤ last) × IsRestless p plan history number) restless
      → length restless + share_above plan (after p plan (take opening history)) low
      ≤ above plan (after p plan (take opening history)) low

  -- from the Round on that comes so many rounds after the first, the cores are at rest
  abbrev pub RestsSoon : Type 0
  RestsSoon = (first last opening low rounds from k : ℕ) → IsStillStretch history first last
      → BeginsAt history first opening → EachHas plan (after p plan (take opening history)) low
      → above plan (after p plan (take opening history)) low
      ≤ rounds + share_above plan (after p plan (take opening history)) low
      → BeginsAt history (first + rounds) from → from ≤ k → InStretch history first last k
      → ¬ RestlessAt p plan history k

  -- what holds of one history
  pub record RaisesLowest : Type 0 where
    pub restless_rounds_raise : RestlessRoundsRaise
    pub restless_rounds_few : RestlessRoundsFew
    pub rests_soon : RestsSoon

-- the law
abbrev pub LowestFirstLaw : Type 0
LowestFirstLaw = (p : Meaning) (plan : Plan) (history : List Entry) → Fits p plan → MeetsMoveObligations p
    → LowestFirst p → Legal p plan history → RaisesLowest p plan history

-- from there on the thread counts differ by one at most, where besides the filter leaves no gap but one thread's weight
abbrev pub EvenSoonLaw : Type 0
EvenSoonLaw = (p : Meaning) (plan : Plan) (history : List Entry) (first last opening low rounds from k : ℕ)
    → Fits p plan
    → MeetsMoveObligations p → LowestFirst p → RestGap p (least_weight p.load) → Legal p plan history
    → IsStillStretch history first last → BeginsAt history first opening
    → EachHas plan (after p plan (take opening history)) low
    → above plan (after p plan (take opening history)) low
    ≤ rounds + share_above plan (after p plan (take opening history)) low
    → BeginsAt history (first + rounds) from → from ≤ k → InStretch history first last k
    → CountsWithin plan (after p plan (take k history)) 1

-- The sharp law: where only idle cores take the last waiting thread of another, each wasted round fills an idle core.
use Rattle.std.specs.Prelude.{◌≡◌, ℕ, suc, ◌+◌, ◌-◌, ◌<◌, ◌≤◌, ◌⊎◌, Bool, false, cond, List, length, take, drop}
use Rattle.std.specs.Prelude.{count_by, sum_by, All}
use Rattle.std.specs.List.Sorted.{IsStrictlyIncreasing}
use mathlib.Core.Option.{some}
use lib.ListN.{get_elem?}
use Rattle.policy_tree.specs.Meaning.{Meaning}
use Rattle.policy_eval.specs.LastWaiting.{LeavesLastToIdle}
use Rattle.policy_eval.specs.Obligations.{MeetsObligations}
use Rattle.round_model.specs.declared.entry.Entry.{Entry}
use Rattle.round_model.specs.declared.entry.Entry.TheVariants as entry
use Rattle.round_model.specs.declared.plan.Plan.{Plan}
use Rattle.round_model.specs.After.{after}
use Rattle.round_model.specs.Cores.{Cores, core_numbers, thread_count}
use Rattle.round_model.specs.Fits.{Fits}
use Rattle.round_model.specs.Legal.{Legal}
use Rattle.round_model.specs.Rounds.{BeginsAt, IsBad, IsStill, is_leaving, round_at}
use Rattle.round_model.specs.Spread.{idle_count}
use Rattle.round_model.specs.StillRounds.{BesideAt}
use Rattle.round_model.specs.Stretches.{InStretch, IsStillStretch}

-- how many threads wait: those of each core beyond the first
unfoldable pub waiting_count : Plan → Cores → ℕ
waiting_count plan m = sum_by (λ c. thread_count (m c) - 1) (core_numbers plan)

-- whether a thread blocks or ends in the entry
abbrev pub takes_off : Entry → Bool
takes_off (entry.Round number) = false
takes_off (entry.Enter thread by at reads) = false
takes_off (entry.Wake thread by at reads) = false
takes_off (entry.Work by what) = is_leaving what
takes_off (entry.Steal by from threads reads) = false
takes_off (entry.Fail by from reads) = false
takes_off (entry.Pass by reads) = false

-- how many of the entries from one position up to another block or end a thread
abbrev pub taken_off : List Entry → (low high : ℕ) → ℕ
taken_off history low high = count_by takes_off (drop low (take high history))

-- the round ends there: the next Round stands at the position, or the history ends
pub record EndsAt (history : List Entry) (number position : ℕ) : Type 0 where
  pub in_round : round_at history position ≡ number
  pub last : BeginsAt history (suc number) position ⊎ (position ≡ length history)

module _ (p : Meaning) (plan : Plan) (history : List Entry) where
  -- how many cores are idle after the first k entries
  abbrev pub idle_at : ℕ → ℕ
  idle_at k = idle_count plan (after p plan (take k history))

  -- how many threads wait after them
  abbrev pub waiting_at : ℕ → ℕ
  waiting_at k = waiting_count plan (after p plan (take k history))

  -- so many are at most the cores that are idle and the threads that wait, and fewer than the cores
  pub record AreFew (number k : ℕ) : Type 0 where
    pub idle : number ≤ idle_at k
    pub waiting : number ≤ waiting_at k
    pub cores : number < plan.cores

  -- a bad and still round ends with fewer idle cores than it began with
  abbrev pub BadRoundsFill : Type 0
  BadRoundsFill = (number opening ending : ℕ) → IsBad p plan history number → IsStill history number number
      → BeginsAt history number opening → EndsAt history number ending → idle_at ending < idle_at opening

  -- no entry raises their number but one that blocks or ends a thread, and that by one at most
  abbrev pub IdleRisesOnlyBy : Type 0
  IdleRisesOnlyBy = (k : ℕ) (e : Entry) → get_elem? history k ≡ some e
      → idle_at (suc k) ≤ idle_at k + cond (takes_off e) 1 0

  -- the bad ones of the rounds first to last, still or not, are at most the cores that were idle at first, and the
  -- entries from there that block or end a thread
  abbrev pub WasteIsPaid : Type 0
  WasteIsPaid = (first last opening ending : ℕ) (bad : List ℕ)
      → BeginsAt history first opening → EndsAt history last ending → IsStrictlyIncreasing bad
      → All (λ number. (first ≤ number) × (number ≤ last) × IsBad p plan history number) bad
      → length bad ≤ idle_at opening + taken_off history opening ending

  -- the bad rounds of a still stretch are at most the cores that were idle and the threads that waited at first, so
  -- fewer than the cores
  abbrev pub StillWasteIsPaid : Type 0
  StillWasteIsPaid = (first last opening : ℕ) (bad : List ℕ) → IsStillStretch history first last
      → BeginsAt history first opening → IsStrictlyIncreasing bad
      → All (λ number. (first ≤ number) × (number ≤ last) × IsBad p plan history number) bad
      → AreFew (length bad) opening

  -- from the Round on that comes as many rounds after the first of a still stretch as cores were idle then, no core is
  -- idle beside an overloaded one
  abbrev pub ConservesWorkSoon : Type 0
  ConservesWorkSoon = (first last opening from k : ℕ) → IsStillStretch history first last
      → BeginsAt history first opening → BeginsAt history (first + idle_at opening) from
      → from ≤ k → InStretch history first last k → ¬ BesideAt p plan history k

  -- what holds of the idle cores of one history
  pub record PaysByIdleCores : Type 0 where
    pub bad_rounds_fill : BadRoundsFill
    pub rises_only_by : IdleRisesOnlyBy
    pub waste_is_paid : WasteIsPaid
    pub still_waste_is_paid : StillWasteIsPaid
    pub conserves_work : ConservesWorkSoon

-- the law
abbrev pub WasteIsPaidLaw : Type 0
WasteIsPaidLaw = (p : Meaning) (plan : Plan) (history : List Entry) → Fits p plan → MeetsObligations p
    → LeavesLastToIdle p → Legal p plan history → PaysByIdleCores p plan history

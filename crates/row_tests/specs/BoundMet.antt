-- A weighted policy that leaves the last waiting thread to idle cores, and a history in which the sharp bound is met.
use Rattle.std.specs.Prelude.{◌≡◌, pos, ℕ, ◌+◌, ◌-◌, ◌≤◌, List, [], ◌∷◌, All, length, map, take}
use Rattle.std.specs.List.Sorted.{IsStrictlyIncreasing}
use Rattle.policy_eval.specs.LastWaiting.{LeavesLastToIdle}
use Rattle.policy_eval.specs.Obligations.{MeetsObligations}
use Rattle.policy_tree.specs.declared.trees.Cmp.TheVariants as cmp
use Rattle.policy_tree.specs.Meaning.{Meaning}
use Rattle.policy_tree.specs.Trees.{CondTree, both, either, number, test, variable}
use Rattle.round_model.specs.declared.entry.Did.TheVariants as did
use Rattle.round_model.specs.declared.entry.Entry.{Entry}
use Rattle.round_model.specs.declared.entry.Entry.TheVariants as entry
use Rattle.round_model.specs.declared.plan.Plan.{Plan}
use Rattle.round_model.specs.Fits.{Fits}
use Rattle.round_model.specs.Legal.{Legal, LegalNext}
use Rattle.round_model.specs.Rounds.{BeginsAt, IsBad}
use Rattle.round_model.specs.StillRounds.{BesideAt}
use Rattle.round_model.specs.Stretches.{InStretch, IsStillStretch}
use Rattle.round_laws.specs.IdleBound.{idle_at, waiting_at}
use Rattle.fair_policy.specs.Fair.{fair_meaning, gap_is_wide, idle_sees_two}
use Rattle.model_tests.specs.Plans.{plan_of, weighing}
use Rattle.row_tests.specs.TakenLast.{beside, three_cores, three_cores_history}

-- victim.nr >= 3 and victim.load - self.load > 8
abbrev pub wide_with_three : CondTree
wide_with_three = both (test cmp.Ge (variable 2) (number (pos 3))) gap_is_wide

-- the policy `fair` with that in its filter
abbrev pub leaving : Meaning
leaving = record fair_meaning { filter = either idle_sees_two wide_with_three }

-- four cores, two heavy threads on the first and two light ones on the second
abbrev pub four_cores : Plan
four_cores = plan_of 4 3 (weighing 1 8 ∷ weighing 2 8 ∷ beside 3 1 ∷ beside 4 1 ∷ []) []

-- both idle cores look at core 0 first: one fails, and steals in the next round
abbrev pub four_cores_history : List Entry
four_cores_history =
    entry.Round 1
    ∷ entry.Enter 1 0 0 (1 ∷ 1 ∷ 1 ∷ 1 ∷ [])
    ∷ entry.Enter 2 0 0 (1 ∷ 1 ∷ 1 ∷ 1 ∷ [])
    ∷ entry.Enter 3 1 1 (3 ∷ 3 ∷ 3 ∷ 3 ∷ [])
    ∷ entry.Enter 4 1 1 (4 ∷ 3 ∷ 4 ∷ 4 ∷ [])
    ∷ entry.Work 0 (did.Queued 1)
    ∷ entry.Pass 0 (6 ∷ 6 ∷ 6 ∷ 6 ∷ [])
    ∷ entry.Work 1 (did.Queued 3)
    ∷ entry.Pass 1 (8 ∷ 8 ∷ 8 ∷ 8 ∷ [])
    ∷ entry.Work 2 did.Nothing
    ∷ entry.Pass 2 (1 ∷ 1 ∷ 10 ∷ 10 ∷ [])
    ∷ entry.Work 3 did.Nothing
    ∷ entry.Pass 3 (1 ∷ 1 ∷ 12 ∷ 12 ∷ [])
    ∷ entry.Round 2
    ∷ entry.Work 2 did.Nothing
    ∷ entry.Work 3 did.Nothing
    ∷ entry.Steal 2 0 (2 ∷ []) (16 ∷ 16 ∷ 16 ∷ 16 ∷ [])
    ∷ entry.Fail 3 0 (16 ∷ 16 ∷ 16 ∷ 16 ∷ [])
    ∷ entry.Work 0 (did.Queued 1)
    ∷ entry.Pass 0 (19 ∷ 19 ∷ 19 ∷ 19 ∷ [])
    ∷ entry.Work 1 (did.Queued 4)
    ∷ entry.Pass 1 (21 ∷ 21 ∷ 21 ∷ 21 ∷ [])
    ∷ entry.Round 3
    ∷ entry.Work 3 did.Nothing
    ∷ entry.Steal 3 1 (3 ∷ []) (24 ∷ 24 ∷ 24 ∷ 24 ∷ [])
    ∷ entry.Work 0 (did.Queued 1)
    ∷ entry.Pass 0 (26 ∷ 26 ∷ 26 ∷ 26 ∷ [])
    ∷ entry.Work 1 (did.Queued 4)
    ∷ entry.Pass 1 (28 ∷ 28 ∷ 28 ∷ 28 ∷ [])
    ∷ entry.Work 2 (did.Queued 2)
    ∷ entry.Pass 2 (30 ∷ 30 ∷ 30 ∷ 30 ∷ [])
    ∷ []

-- two idle cores, two waiting threads, two bad rounds
pub record BoundIsMet : Type 0 where
  pub meets : MeetsObligations leaving
  pub leaves : LeavesLastToIdle leaving
  pub fits : Fits leaving four_cores
  pub legal : Legal leaving four_cores four_cores_history
  pub stretch : IsStillStretch four_cores_history 2 3
  pub second_is_bad : IsBad leaving four_cores four_cores_history 2
  pub third_is_bad : IsBad leaving four_cores four_cores_history 3
  pub idle : map (idle_at leaving four_cores four_cores_history) (13 ∷ 22 ∷ 31 ∷ []) ≡ 2 ∷ 1 ∷ 0 ∷ []
  pub waiting : map (waiting_at leaving four_cores four_cores_history) (13 ∷ 22 ∷ 31 ∷ []) ≡ 2 ∷ 1 ∷ 0 ∷ []

-- what the law says of the histories of a policy
abbrev pub SaysOfAll : (Meaning → Plan → List Entry → Type 0) → Type 0
SaysOfAll says = (p : Meaning) (plan : Plan) (history : List Entry) → Fits p plan → MeetsObligations p
    → LeavesLastToIdle p → Legal p plan history → says p plan history

-- were the bad rounds of a still stretch one fewer than the cores that were idle
abbrev pub OneRoundLess : Meaning → Plan → List Entry → Type 0
OneRoundLess p plan history = (first last opening : ℕ) (bad : List ℕ) → IsStillStretch history first last
    → BeginsAt history first opening → IsStrictlyIncreasing bad
    → All (λ number. (first ≤ number) × (number ≤ last) × IsBad p plan history number) bad
    → length bad ≤ idle_at p plan history opening - 1

-- were work conserved one Round sooner
abbrev pub OneRoundSooner : Meaning → Plan → List Entry → Type 0
OneRoundSooner p plan history = (first last opening from k : ℕ) → IsStillStretch history first last
    → BeginsAt history first opening → BeginsAt history (first + (idle_at p plan history opening - 1)) from
    → from ≤ k → InStretch history first last k → ¬ BesideAt p plan history k

-- both are false
pub record NoRoundLess : Type 0 where
  pub not_one_less : ¬ SaysOfAll OneRoundLess
  pub not_one_sooner : ¬ SaysOfAll OneRoundSooner

-- under this policy core 1 doesn't take the last waiting thread
abbrev pub MendedMisses : Type 0
MendedMisses = ¬ LegalNext leaving three_cores (take 13 three_cores_history)
    (entry.Steal 1 0 (2 ∷ []) (13 ∷ 13 ∷ 13 ∷ []))

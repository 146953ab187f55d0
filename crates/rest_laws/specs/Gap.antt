-- The gap at rest: where the filter fails only of a victim that has little more than the thief, all cores at rest have
-- about the same.
use Rattle.std.specs.Prelude.{◌≡◌, ℕ, ◌+◌, ◌<◌, ◌≤◌, List, take}
use Rattle.policy_tree.specs.Meaning.{Meaning}
use Rattle.policy_eval.specs.Obligations.{MeetsHandlerObligations, RestGap}
use Rattle.policy_eval.specs.Ranges.{greatest_weight, least_weight}
use Rattle.round_model.specs.declared.entry.Entry.{Entry}
use Rattle.round_model.specs.declared.plan.Plan.{Plan}
use Rattle.round_model.specs.After.{after}
use Rattle.round_model.specs.Cores.{Cores, load_of, thread_count}
use Rattle.round_model.specs.Fits.{Fits}
use Rattle.round_model.specs.Legal.{Legal}
use Rattle.round_laws.specs.Rest.{RestlessAt}

-- no core's load is greater than another's by more
abbrev pub LoadsWithin : Plan → Cores → ℕ → Type 0
LoadsWithin plan m g = (a c : ℕ) → a < plan.cores → c < plan.cores → load_of (m a) ≤ load_of (m c) + g

-- nor is a core's thread count
abbrev pub CountsWithin : Plan → Cores → ℕ → Type 0
CountsWithin plan m g = (a c : ℕ) → a < plan.cores → c < plan.cores → thread_count (m a) ≤ thread_count (m c) + g

-- wherever in a legal history the cores are at rest, no two loads differ by more than the gap
abbrev pub RestGapLaw : Type 0
RestGapLaw = (p : Meaning) (plan : Plan) (history : List Entry) (g k : ℕ) → Fits p plan → MeetsHandlerObligations p
    → Legal p plan history → RestGap p g → ¬ RestlessAt p plan history k
    → LoadsWithin plan (after p plan (take k history)) g

-- where all threads weigh the same and the gap is one thread's weight, no two thread counts differ by more than 1: each
-- core has its share of all threads, rounded down or up. Where loads are counts, that weight is 1
abbrev pub EvenCountsLaw : Type 0
EvenCountsLaw = (p : Meaning) (plan : Plan) (history : List Entry) (k : ℕ) → Fits p plan → MeetsHandlerObligations p
    → Legal p plan history → least_weight p.load ≡ greatest_weight p.load → RestGap p (least_weight p.load)
    → ¬ RestlessAt p plan history k → CountsWithin plan (after p plan (take k history)) 1

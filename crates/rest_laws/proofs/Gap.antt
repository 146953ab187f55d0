-- Of cores at rest the filter holds of no two, so no load is greater than another by more than the gap.
use Rattle.std.proofs.Common.{◌≡◌, ◌≢◌, ℕ, ◌+◌, ◌*◌, ◌<◌, ◌≤◌, ◌⊎◌, inl, inr, List, take, sym, ap, arith}
use Rattle.std.proofs.lemmas.Bool.{cases_lt}
use Rattle.std.proofs.lemmas.Nat.{mul-le}
use Rattle.policy_tree.specs.Meaning.{Meaning}
use Rattle.policy_eval.specs.Fitting.{LoadsFit}
use Rattle.policy_eval.specs.Obligations.{MeetsHandlerObligations, RestGap}
use Rattle.policy_eval.specs.Ranges.{greatest_weight, least_weight}
use Rattle.round_model.specs.declared.entry.Entry.{Entry}
use Rattle.round_model.specs.declared.plan.Plan.{Plan}
use Rattle.round_model.specs.After.{after}
use Rattle.round_model.specs.Attempts.{present_values}
use Rattle.round_model.specs.Cores.{load_of, thread_count}
use Rattle.round_model.specs.Fits.{Fits}
use Rattle.round_model.specs.Legal.{Legal}
use Rattle.round_model.proofs.Grows.{legal_prefix}
use Rattle.rest_laws.specs.Gap.{EvenCountsLaw, LoadsWithin, RestGapLaw}
use Rattle.round_laws.specs.Rest.{Restless}
use Rattle.round_laws.proofs.SeenChanges.{number_same}
use Rattle.round_laws.proofs.Thefts.{present_fits}

module _ (p : Meaning) (plan : Plan) (fits : Fits p plan) (handlers : MeetsHandlerObligations p) (h : List Entry) (legal : Legal p plan h) where
  loads_within : (g : ℕ) → RestGap p g → ¬ Restless p plan (after p plan h) → LoadsWithin plan (after p plan h) g
  loads_within g gap rest a c own there = by_place (number_same a c)
    where
      by_place : (a ≡ c) ⊎ (a ≢ c) → load_of (after p plan h a) ≤ load_of (after p plan h c) + g
      by_place (inl is) = let same = ap (λ k. load_of (after p plan h k)) is in omega arith
      by_place (inr apart) =
          gap (present_values plan (after p plan h) c) (present_values plan (after p plan h) a) (present_fits p plan fits handlers h legal c there) (present_fits p plan fits handlers h legal a own)
          (λ passes. rest (record { thief = c; victim = a; thief_there = there; victim_there = own; apart = λ is. apart (sym is); passes = passes }))

-- a load of so many threads of the weight w is no greater than another and w only if they are at most one more
counts_close : (n m w : ℕ) → 1 ≤ w → n * w ≤ m * w + w → n ≤ m + 1
counts_close n m w some close = by_order (cases_lt (m + 1) n)
  where
    by_order : (m + 1 < n) ⊎ (n ≤ m + 1) → n ≤ m + 1
    by_order (inl more) = let least = mul-le (m + 2) w n w (omega arith) (omega arith) in absurd (omega arith)
    by_order (inr few) = few

-- where all weigh the same, a core's load is its count times the weight
pub equal_load : (p : Meaning) → least_weight p.load ≡ greatest_weight p.load → (nr load : ℕ) → LoadsFit p nr load → load ≡ nr * least_weight p.load
equal_load p same nr load fits =
    let light = fits.light in
    let heavy = fits.heavy in
    let product : nr * least_weight p.load ≡ nr * greatest_weight p.load = ap (λ w. nr * w) same in
    omega arith

pub rest_gap : RestGapLaw
rest_gap p plan h g k fits handlers legal gap rest = loads_within p plan fits handlers (take k h) (legal_prefix p plan h k legal) g gap rest

pub even_counts : EvenCountsLaw
even_counts p plan h k fits handlers legal same gap rest a c own there =
    let m = after p plan (take k h) in
    let so_far = legal_prefix p plan h k legal in
    let w = least_weight p.load in
    let close = rest_gap p plan h w k fits handlers legal gap rest a c own there in
    let first = equal_load p same (thread_count (m a)) (load_of (m a)) (present_fits p plan fits handlers (take k h) so_far a own).loads in
    let second = equal_load p same (thread_count (m c)) (load_of (m c)) (present_fits p plan fits handlers (take k h) so_far c there).loads in
    counts_close (thread_count (m a)) (thread_count (m c)) w fits.policy.load.positive (omega arith)

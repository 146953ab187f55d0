-- Such plans fit the policies under which they are played.
use Rattle.std.proofs.Common.{◌≡◌, ◌≤◌, ◌<◌, ◌+◌, ◌⊎◌, ℕ, pos, List, [], length, get_or, refl, sym, ap, ◌∙◌, subst, ⊎_elim, arith, All}
use Rattle.std.proofs.lemmas.Int.{ints}
use Rattle.std.proofs.lemmas.List.{length-replicate}
use Rattle.std.proofs.lemmas.List.Elements.{All-replicate}
use Rattle.policy_tree.specs.Meaning.{Meaning}
use Rattle.policy_eval.specs.Fitting.{IsWeight}
use Rattle.policy_eval.specs.Obligations.{MeetsHandlerObligations}
use Rattle.policy_eval.specs.Ranges.{AreIn, IsIn, attribute_ranges, range}
use Rattle.policy_eval.specs.Resolved.{IsResolved}
use Rattle.policy_eval.specs.Sights.{no_attributes}
use Rattle.round_model.specs.declared.plan.Burst.{Burst}
use Rattle.round_model.specs.declared.plan.OrderLine.{OrderLine}
use Rattle.round_model.specs.declared.plan.Plan.{Plan}
use Rattle.round_model.specs.declared.plan.Planned.{Planned}
use Rattle.round_model.specs.Fits.{Fits, IsProgram, ThreadFits}
use Rattle.round_model.specs.Limits.{IsWithinLimits}
use Rattle.serial_steps.specs.SerialEnds.{RoundFits}
use Rattle.fair_policy.specs.Fair.{fair_meaning}
use Rattle.fair_policy.proofs.FairMeets.{fair_handlers_meet}
use Rattle.fair_policy.proofs.FairResolved.{fair_resolved}
use Rattle.model_tests.specs.Policies.{basic, in_batches}
use Rattle.model_tests.proofs.BatchPolicies.{batched_handlers, batched_resolved}
use Rattle.model_tests.proofs.PolicyRows.{basic_handlers}
use Rattle.model_tests.proofs.ResolvedRows.{basic_resolved}
use Rattle.table_players.specs.Crowds.{IsCrowd, IsMember, IsTried}

-- what holds of the three policies
each_policy : (P : Meaning → Type 0) → P basic → P fair_meaning → P (in_batches 8) → (p : Meaning) → IsTried p → P p
each_policy P here by_load batched p tried =
    ⊎_elim
    (λ (is : p ≡ basic). subst P (sym is) here)
    (λ (other : (p ≡ fair_meaning) ⊎ (p ≡ in_batches 8)). ⊎_elim (λ (is : p ≡ fair_meaning). subst P (sym is) by_load) (λ (is : p ≡ in_batches 8). subst P (sym is) batched) other)
    tried

pub tried_handlers : (p : Meaning) → IsTried p → MeetsHandlerObligations p
tried_handlers = each_policy MeetsHandlerObligations basic_handlers fair_handlers_meet (batched_handlers 8)

-- what a policy is to grant so that such plans fit it
record Grants (p : Meaning) : Type 0 where
  resolved : IsResolved p
  zeros : AreIn (attribute_ranges p.core_attrs) no_attributes
  one : IsWeight p 1

-- the constants of a core without attributes
zeros_fit : AreIn (attribute_ranges []) no_attributes
zeros_fit = (zero_in, (zero_in, (zero_in, (zero_in, (zero_in, (zero_in, (zero_in, (zero_in, tt))))))))
  where
    zero_in : IsIn (range (pos 0) (pos 0)) (pos 0)
    zero_in = record { above = omega (arith, ints); below = omega (arith, ints) }

grants : (p : Meaning) → IsTried p → Grants p
grants = each_policy Grants
    (record { resolved = basic_resolved; zeros = zeros_fit; one = record { least = omega arith; greatest = omega arith } })
    (record { resolved = fair_resolved; zeros = zeros_fit; one = record { least = omega arith; greatest = omega arith } })
    (record { resolved = batched_resolved 8 (omega arith) (omega arith); zeros = zeros_fit; one = record { least = omega arith; greatest = omega arith } })

module _ (p : Meaning) (grant : Grants p) (plan : Plan) (is : IsCrowd plan) where
  member_fits : (cores number : ℕ) (t : Planned) → 1 ≤ number → number ≤ 8 → IsMember cores number t → ThreadFits p cores t
  member_fits cores number t positive small m = record {
    id_positive = let same = m.id in omega arith;
    id_small = let same = m.id in omega arith;
    core = m.core;
    weight = subst (IsWeight p) (sym m.weight) grant.one;
    program = subst IsProgram (sym m.bursts) (omega arith, omega arith, refl);
    few_bursts = let one : length t.bursts ≡ 1 = ap (length {A = Burst}) m.bursts in omega arith;
  }

  no_orders : (k : ℕ) → k < length plan.orders → 1 ≤ 0
  no_orders k inside = let none : length plan.orders ≡ 0 = ap (length {A = OrderLine}) is.orders in omega arith

  fits : Fits p plan
  fits = record {
    policy = grant.resolved;
    some_cores = is.some_cores;
    consts_each = ap (length {A = List _}) is.consts ∙ length-replicate plan.cores no_attributes;
    consts = subst (All (AreIn (attribute_ranges p.core_attrs))) (sym is.consts) (All-replicate (AreIn (attribute_ranges p.core_attrs)) plan.cores no_attributes grant.zeros);
    few_threads = let few = is.few_threads in omega arith;
    threads = λ k d inside. let few = is.few_threads in member_fits plan.cores (k + 1) (get_or plan.threads k d) (omega arith) (omega arith) (is.threads k d inside);
    distinct = λ i j d below inside same. let first = (is.threads i d (omega arith)).id in let second = (is.threads j d inside).id in absurd (omega arith);
    orders = λ k d inside. let bad = no_orders k inside in absurd (omega arith);
    one_order_each = λ i j d below inside. let bad = no_orders j inside in absurd (omega arith);
  }

pub crowd_fits : (p : Meaning) → IsTried p → (plan : Plan) → IsCrowd plan → Fits p plan
crowd_fits p tried = fits p (grants p tried)

pub crowd_within : (plan : Plan) → IsCrowd plan → IsWithinLimits plan
crowd_within plan is = record {
  few_cores = let few = is.few_cores in omega arith;
  few_rounds = let one = is.rounds in omega arith;
  few_entries = let limit = is.limit in omega arith;
}

pub crowd_round : (plan : Plan) → IsCrowd plan → RoundFits plan 0
crowd_round plan is = let cores = is.few_cores in let threads = is.few_threads in let limit = is.limit in omega arith

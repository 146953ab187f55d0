-- Plans that are drawn fit the policy with a batch.
use Rattle.std.proofs.Common.{◌≡◌, ◌≤◌, ◌<◌, ◌+◌, ℕ, List, [], length, get_or, sym, ap, ◌∙◌, subst, arith, All}
use Rattle.std.proofs.lemmas.List.{length-replicate}
use Rattle.std.proofs.lemmas.List.Elements.{All-replicate}
use Rattle.policy_tree.specs.Meaning.{Meaning}
use Rattle.policy_eval.specs.Fitting.{IsWeight}
use Rattle.policy_eval.specs.Obligations.{MeetsHandlerObligations}
use Rattle.policy_eval.specs.Ranges.{AreIn, attribute_ranges}
use Rattle.policy_eval.specs.Resolved.{IsResolved}
use Rattle.policy_eval.specs.Sights.{no_attributes}
use Rattle.round_model.specs.declared.plan.OrderLine.{OrderLine}
use Rattle.round_model.specs.declared.plan.Plan.{Plan}
use Rattle.round_model.specs.declared.plan.Planned.{Planned}
use Rattle.round_model.specs.Fits.{Fits, ThreadFits}
use Rattle.round_model.specs.Limits.{IsWithinLimits}
use Rattle.model_tests.specs.Policies.{in_batches}
use Rattle.model_tests.proofs.BatchPolicies.{batched_handlers, batched_resolved}
use Rattle.model_tests.proofs.PolicyRows.{zeros_fit}
use Rattle.serial_tests.specs.Drawn.{IsDrawn, IsMember}

pub resolved : (p : Meaning) → p ≡ in_batches 8 → IsResolved p
resolved p is = subst IsResolved (sym is) (batched_resolved 8 (omega arith) (omega arith))

pub handlers_meet : (p : Meaning) → p ≡ in_batches 8 → MeetsHandlerObligations p
handlers_meet p is = subst MeetsHandlerObligations (sym is) (batched_handlers 8)

member_fits : (cores number : ℕ) (t : Planned) → 1 ≤ number → number ≤ 16 → IsMember cores number t → ThreadFits (in_batches 8) cores t
member_fits cores number t positive small m = record {
  id_positive = let same = m.id in omega arith;
  id_small = let same = m.id in omega arith;
  core = m.core;
  weight = subst (IsWeight (in_batches 8)) (sym m.weight) (record { least = omega arith; greatest = omega arith });
  program = m.program;
  few_bursts = let few = m.few_bursts in omega arith;
}

module _ (plan : Plan) (is : IsDrawn plan) where
  no_orders : (k : ℕ) → k < length plan.orders → 1 ≤ 0
  no_orders k inside = let none : length plan.orders ≡ 0 = ap (length {A = OrderLine}) is.orders in omega arith

  fits : Fits (in_batches 8) plan
  fits = record {
    policy = batched_resolved 8 (omega arith) (omega arith);
    some_cores = is.some_cores;
    consts_each = ap (length {A = List _}) is.consts ∙ length-replicate plan.cores no_attributes;
    consts = subst (All (AreIn (attribute_ranges []))) (sym is.consts) (All-replicate (AreIn (attribute_ranges [])) plan.cores no_attributes zeros_fit);
    few_threads = let few = is.few_threads in omega arith;
    threads = λ k d inside. let few = is.few_threads in member_fits plan.cores (k + 1) (get_or plan.threads k d) (omega arith) (omega arith) (is.threads k d inside);
    distinct = λ i j d below inside same. let first = (is.threads i d (omega arith)).id in let second = (is.threads j d inside).id in absurd (omega arith);
    orders = λ k d inside. let bad = no_orders k inside in absurd (omega arith);
    one_order_each = λ i j d below inside. let bad = no_orders j inside in absurd (omega arith);
  }

pub drawn_within : (plan : Plan) → IsDrawn plan → IsWithinLimits plan
drawn_within plan is = record {
  few_cores = let few = is.few_cores in omega arith;
  few_rounds = let six = is.rounds in omega arith;
  few_entries = let limit = is.limit in omega arith;
}

pub drawn_fits : (p : Meaning) → p ≡ in_batches 8 → (plan : Plan) → IsDrawn plan → Fits p plan
drawn_fits p same plan is = subst (λ q. Fits q plan) (sym same) (fits plan is)

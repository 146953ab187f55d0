-- Threads may go over between two cores that a legal history leaves.
use Rattle.std.proofs.Common.{◌≡◌, ◌≢◌, ℕ, ◌<◌, ℤ, List, length, slice_get, Some, sym, ap, subst, arith}
use Rattle.std.proofs.lemmas.Option.{get_or_from_slice_get}
use Rattle.policy_tree.specs.Meaning.{Meaning}
use Rattle.policy_eval.specs.Obligations.{MeetsHandlerObligations}
use Rattle.policy_eval.specs.Ranges.{AreIn, attribute_ranges}
use Rattle.policy_eval.specs.Sights.{no_attributes}
use Rattle.round_model.specs.declared.entry.Entry.{Entry}
use Rattle.round_model.specs.declared.plan.Plan.{Plan}
use Rattle.round_model.specs.declared.state.ModelCore.{ModelCore}
use Rattle.round_model.specs.After.{after}
use Rattle.round_model.specs.Bounds.{CoreInBounds, standing_count}
use Rattle.round_model.specs.BoundsLaws.{IsBounded}
use Rattle.round_model.specs.Cores.{consts_of}
use Rattle.round_model.specs.Fits.{Fits}
use Rattle.round_model.specs.Legal.{Legal}
use Rattle.round_model.specs.Moves.{StandOnce}
use Rattle.round_model.proofs.Bounded.{bounds_law}
use Rattle.round_model.proofs.Finding.{All-at}
use Rattle.round_model.proofs.Once.{queues_once}
use Rattle.core_state.specs.Views.{CoreView}
use Rattle.batch_moves.specs.Sides.{MayTake}

-- the constants of a core of the plan lie in their ranges
pub consts_in : (p : Meaning) (plan : Plan) → Fits p plan → (c : ℕ) (consts : List ℤ) → slice_get plan.consts c ≡ Some consts → AreIn (attribute_ranges p.core_attrs) consts
consts_in p plan fits c consts is = All-at (AreIn (attribute_ranges p.core_attrs)) plan.consts fits.consts c consts is

pub consts_are : (plan : Plan) (c : ℕ) (consts : List ℤ) → slice_get plan.consts c ≡ Some consts → consts ≡ consts_of plan c
consts_are plan c consts is = sym (get_or_from_slice_get plan.consts c consts no_attributes is)

module _ (p : Meaning) (plan : Plan) (fits : Fits p plan) (handlers : MeetsHandlerObligations p) (h : List Entry) (legal : Legal p plan h) where
  bounded : IsBounded p plan h
  bounded = bounds_law p plan h fits handlers legal

  pub may_take : (a v : ℕ) (y z : CoreView) → a < plan.cores → v < plan.cores → a ≢ v → y.core ≡ after p plan h a → y.room ≡ length plan.threads
      → z.core ≡ after p plan h v → MayTake p y z
  may_take a v y z first second apart own room other =
      let both = bounded.two_cores a v first second apart in
      let at_first : standing_count y.core ≡ standing_count (after p plan h a) = ap standing_count own in
      let at_second : standing_count z.core ≡ standing_count (after p plan h v) = ap standing_count other in
      record {
        thief_bounds = subst (CoreInBounds p) (sym own) (bounded.bounds.each a first);
        victim_bounds = subst (CoreInBounds p) (sym other) (bounded.bounds.each v second);
        room = omega (arith, both, at_first, at_second, room);
        few = omega (arith, fits.few_threads, room);
        once = subst (λ (core : ModelCore). StandOnce core.queue) (sym other) (queues_once p plan h fits handlers legal v second);
      }

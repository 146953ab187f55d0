-- The opening state: each core of it, and that it is in bounds.
use Rattle.std.proofs.Common.{◌≡◌, ℕ, ◌<◌, ℤ, List, [], ◌∷◌, map, sum, slice_get, Some, None, refl, ap, arith}
use Rattle.std.proofs.lemmas.Option.{get_or_from_slice_get}
use Rattle.policy_tree.specs.Meaning.{Meaning}
use Rattle.policy_eval.specs.Sights.{no_attributes}
use Rattle.round_model.specs.declared.plan.Plan.{Plan}
use Rattle.round_model.specs.declared.state.ModelCore.{ModelCore}
use Rattle.round_model.specs.Bounds.{CoreInBounds, standing_count}
use Rattle.round_model.specs.Cores.{core_numbers, opening_state}
use Rattle.round_model.specs.Fits.{Fits}
use Rattle.round_model.specs.Laws.{OpeningLaw}

nobody : (plan : Plan) (cores : List ℕ) → sum (map (λ c. standing_count (opening_state plan c)) cores) ≡ 0
unfolding opening_state
nobody plan [] = refl
nobody plan (c ∷ cores) = nobody plan cores

pub opening_core : (p : Meaning) (plan : Plan) → Fits p plan → (c : ℕ) → c < plan.cores → CoreInBounds p (opening_state plan c)
unfolding opening_state
opening_core p plan fits c there = record {
  loads = record { few = omega arith; light = omega arith; heavy = omega arith };
  tasks = λ k d inside. absurd (omega arith);
  blocked = λ k d inside. absurd (omega arith);
  consts = fits.consts c no_attributes (omega (arith, fits.consts_each));
}

pub opening_bounds : OpeningLaw
opening_bounds p plan fits = record { total = omega (arith, nobody plan (core_numbers plan)); each = opening_core p plan fits }

-- a core as it opens, with these constants
pub opening_at : (plan : Plan) (c : ℕ) (consts : List ℤ) → slice_get plan.consts c ≡ Some consts
    → opening_state plan c ≡ record { current = None; queue = []; blocked = []; consts = consts }
unfolding opening_state
opening_at plan c consts is =
    ap (λ (held : List ℤ). let core : ModelCore = record { current = None; queue = []; blocked = []; consts = held } in core)
    (get_or_from_slice_get plan.consts c consts no_attributes is)

-- Numbers of an attribute's range fit 32 bits.
use Rattle.std.proofs.Common.{◌≡◌, ℤ, to_z, of_z, FitsSigned, refl, ap, ◌∙◌, arith}
use Rattle.std.specs.Int.{w32, w128}
use Rattle.std.proofs.lemmas.Int.{to_z-of_z, fits_signed_from_abs}
use Rattle.policy_types.specs.Declarations.{int_meaning}
use Rattle.policy_types.proofs.Ranges.{attribute_fits}
use Rattle.policy_types.proofs.declarations.attribute.Goals as goal

stored : (x y : ℤ) → y ≡ x → FitsSigned w128 y → FitsSigned w32 x → to_z w32 (of_z w32 (to_z w128 (of_z w128 y))) ≡ x
stored x y same wide fits = ap (λ z. to_z w32 (of_z w32 z)) (to_z-of_z w128 y wide ∙ same) ∙ to_z-of_z w32 x fits

pub returns : goal.returns
returns c =
    let fits = attribute_fits c.args.attr.now c.requires in
    rw (
      c.in_ok-copy_of_name.ensures,
      stored (int_meaning c.args.attr.now.range.low) c.int.result c.int.ensures.value (fits_signed_from_abs w128 c.int.result (omega (arith, c.int.ensures.bound))) fits.low,
      stored (int_meaning c.args.attr.now.range.high) c.int-2.result c.int-2.ensures.value (fits_signed_from_abs w128 c.int-2.result (omega (arith, c.int-2.ensures.bound))) fits.high,
      stored (int_meaning c.args.attr.now.start) c.int-3.result c.int-3.ensures.value (fits_signed_from_abs w128 c.int-3.result (omega (arith, c.int-3.ensures.bound))) fits.start,
    )
    refl

-- The magnitude decides.
use Rattle.std.proofs.Common.{unsigned_abs, ap, ◌∙◌, arith, to_z, of_z, ◌≤◌, ◌<◌, FitsSigned}
use Rattle.std.specs.Int.{w64, w128}
use Rattle.std.proofs.lemmas.Int.{to_z-of_z, fits_signed_from_abs}
use Rattle.std.proofs.lemmas.Bool.Decides.{leb_tells}
use Rattle.policy_types.proofs.Small.{small_abs}
use Rattle.policy_types.proofs.sums.small.Goals as goal

pub returns-then-unsigned_abs : goal.returns-then-unsigned_abs
returns-then-unsigned_abs c =
    let value = c.args.value in
    let same = ap unsigned_abs (to_z-of_z w128 value c.ranges.value) in
    let few : unsigned_abs value ≤ 1099511627776 = omega arith in
    let fits : FitsSigned w64 value = fits_signed_from_abs w64 value (omega arith) in (
      ap (λ z. to_z w64 (of_z w64 z)) (to_z-of_z w128 value c.ranges.value) ∙ to_z-of_z w64 value fits,
      small_abs value ∙ grind (arith, leb_tells),
    )

pub returns-else-unsigned_abs : goal.returns-else-unsigned_abs
returns-else-unsigned_abs c =
    let value = c.args.value in
    let same = ap unsigned_abs (to_z-of_z w128 value c.ranges.value) in
    let many : 1099511627776 < unsigned_abs value = omega arith in
    small_abs value ∙ grind (arith, leb_tells)

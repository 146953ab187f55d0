-- One value after another is no farther from 0.
use Rattle.std.proofs.Common.{[], ◌∷◌, ◌++◌, ◌+◌, ◌∙◌, ◌≡◌, ◌≤◌, ◌<◌, ◌^◌, ap, ℤ, List, length, pos, slice_index_or, subst, sym, take, unsigned_abs, FitsSigned, arith, rules}
use Rattle.std.specs.Int.{w64}
use Rattle.std.proofs.lemmas.Int.{to_z-of_z}
use Rattle.std.proofs.lemmas.List.{length-take-le, take_more}
use Rattle.std.proofs.lemmas.List.Elements.{AllZip-push, length_all_zip}
use Rattle.policy_checker.specs.Smaller.{AreNearer}
use Rattle.policy_checker.proofs.smaller.moved.Goals as goal

pub loop-at-preserved : goal.loop-at-preserved
loop-at-preserved c =
    let at = c.loop-at.at in
    let xs = c.as_slice-values.result.now in
    let value = slice_index_or xs at (pos 0) in
    let moved = c.moved_value.result in
    let so_far = c.loop-at.vals.items in
    let value_fits : FitsSigned w64 value = search rules in
    let moved_fits : FitsSigned w64 moved = search rules in
    let near = subst (λ (z : ℤ). unsigned_abs moved ≤ unsigned_abs z) (to_z-of_z w64 value value_fits) c.moved_value.ensures in
    let items : c.push.new.self.items ≡ so_far ++ moved ∷ [] = c.in_ok-push.ensures.items ∙ ap (λ (z : ℤ). so_far ++ z ∷ []) (to_z-of_z w64 moved moved_fits) in
    let before = subst (λ (ys : List ℤ). AreNearer so_far (take at ys)) (sym c.as_slice-values.ensures.items) c.loop-at.invariant in
    let pushed = AllZip-push (λ (a b : ℤ). unsigned_abs a ≤ unsigned_abs b) so_far (take at xs) moved value before near in
    let more = subst (λ (ys : List ℤ). AreNearer (so_far ++ moved ∷ []) ys) (sym (take_more xs at (pos 0) c.loop-at-test.true)) pushed in
    let whole = subst (λ (ys : List ℤ). AreNearer (so_far ++ moved ∷ []) (take (at + 1) ys)) c.as_slice-values.ensures.items more in
    subst (λ (ys : List ℤ). AreNearer ys (take (at + 1) c.args.point.now.vals)) (sym items) whole

pub from_vec-requires : goal.from_vec-requires
from_vec-requires c =
    let xs = c.args.point.now.vals in
    let at = c.loop-at.at in
    let long = length_all_zip (λ (a b : ℤ). unsigned_abs a ≤ unsigned_abs b) c.loop-at.vals.items (take at xs) c.loop-at.invariant in
    let same : length c.as_slice-values.result.now ≡ length xs = ap length c.as_slice-values.ensures.items in
    let short = length-take-le at xs (omega (arith, same)) in
    let few : length c.as_slice-values.result.now < 2 ^ 32 = c.as_slice-values.ensures.len in
    grind (arith, long, short, few)

use Rattle.std.proofs.Common.{get_or, pos, FitsSigned, sym, ◌∙◌, subst, arith, rules, to_z-of_z}
use Rattle.std.specs.Int.{w64}
use Rattle.std.proofs.lemmas.List.{take_all, take_more}
use Rattle.std.proofs.lemmas.List.Elements.{All-push}
use Rattle.linear_solver.specs.Sums.{IsAtMost, added}
use Rattle.linear_solver.proofs.Additions.{length-added, get_or-added}
use Rattle.linear_solver.proofs.factors.added.Goals as goal

pub returns-in-None : goal.returns-in-None
returns-in-None c = λ all.
    let left = c.args.left.now in
    let right = c.args.right.now in
    let i = c.loop-place.place in
    let fits_left : FitsSigned w64 (get_or left i (pos 0)) = search rules in
    let fits_right : FitsSigned w64 (get_or right i (pos 0)) = search rules in
    let length_is = length-added c.args.x c.args.y left right c.requires.same in
    let value = get_or-added c.args.x c.args.y left right i (pos 0) (pos 0) (pos 0) c.loop-place-test.true (omega arith) in
    let over = simp to_z-of_z at c.in-None.ensures in
    over (subst (IsAtMost c.args.most) value (all i (pos 0) (omega (arith, length_is))))

pub loop-place-preserved : goal.loop-place-preserved
loop-place-preserved c =
    let left = c.args.left.now in
    let right = c.args.right.now in
    let i = c.loop-place.place in
    let sums = added c.args.x c.args.y left right in
    let fits_left : FitsSigned w64 (get_or left i (pos 0)) = search rules in
    let fits_right : FitsSigned w64 (get_or right i (pos 0)) = search rules in
    let length_is = length-added c.args.x c.args.y left right c.requires.same in
    let value = get_or-added c.args.x c.args.y left right i (pos 0) (pos 0) (pos 0) c.loop-place-test.true (omega arith) in
    let sum = simp to_z-of_z at c.in-Some.ensures in
    let more = take_more sums i (pos 0) (omega (arith, length_is)) in
    let fits_sum : FitsSigned w64 c.in-Some.sum = search rules in
    let pushed = simp to_z-of_z at c.in_ok-push-in-Some.ensures.items in
    record {
      front = cc;
      small = rw pushed (All-push (IsAtMost c.args.most) c.loop-place.sums.items c.in-Some.sum c.loop-place.invariant.small (subst (IsAtMost c.args.most) (sym sum.1) sum.0));
      len = search rules;
    }

pub returns : goal.returns
returns c =
    let all = length-added c.args.x c.args.y c.args.left.now c.args.right.now c.requires.same in
    let whole = take_all c.loop-place.place _ (omega (arith, all)) in
    (c.from_vec.ensures ∙ c.loop-place.invariant.front ∙ whole, rw c.from_vec.ensures c.loop-place.invariant.small)

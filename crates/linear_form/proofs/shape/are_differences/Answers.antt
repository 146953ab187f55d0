use Rattle.std.proofs.Common.{subst, refl}
use Rattle.std.proofs.lemmas.List.{take_all}
use Rattle.std.proofs.lemmas.List.Elements.{All-more}
use Rattle.linear_form.specs.Difference.{IsDifference, IsDifferenceRow}
use Rattle.linear_form.proofs.shape.are_differences.Goals as goal

pub loop-row-preserved : goal.loop-row-preserved
loop-row-preserved c =
    let row = subst IsDifferenceRow c.row-item.is (c.if-not-is_difference.ensures.0 refl) in
    All-more IsDifferenceRow _ c.loop-row.row-index c.row-item.result c.loop-row-test.true c.loop-row.invariant row

pub returns : goal.returns
returns c =
    let rows = take_all c.loop-row.row-index c.args.rows.now c.loop-row-test.false in
    let all = subst IsDifference rows c.loop-row.invariant in
    (λ t. all, λ t. refl)

use Rattle.std.proofs.Common.{arith}
use Rattle.std.proofs.lemmas.List.Elements.{All-push}
use Rattle.std.proofs.lemmas.List.FromFn.{map-range_with_len_more}
use Rattle.linear_solver.specs.Elimination.{first_row}
use Rattle.linear_solver.specs.Shapes.{HasShape, shape_of}
use Rattle.linear_solver.proofs.first.first_list.Goals as goal

pub loop-number-preserved : goal.loop-number-preserved
loop-number-preserved c =
    let pushed = c.in_ok-push.ensures.items in
    let value = c.in_ok-first_row.ensures.row in
    let more = map-range_with_len_more (first_row c.args.bounds.now c.args.rows.now) 0 c.loop-number.number c.loop-number.number (omega arith) in
    record { front = cc; shape = rw pushed (All-push (HasShape (shape_of c.args.bounds.now c.args.rows.now)) c.loop-number.list.items c.in_ok-first_row.field-0 c.loop-number.invariant.shape (rw c.shape_of-shape.ensures at c.in_ok-first_row.ensures.shape)) }

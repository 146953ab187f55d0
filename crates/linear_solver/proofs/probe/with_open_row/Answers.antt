use Rattle.std.proofs.lemmas.List.Elements.{All-push}
use Rattle.linear_solver.specs.Follows.{IsSumRow}
use Rattle.linear_solver.proofs.SumRows.{first_is_sum}
use Rattle.linear_solver.proofs.probe.with_open_row.Goals as goal

pub returns : goal.returns
returns c =
    let bounds = c.args.bounds.now in
    let rows = c.args.rows.now in
    let row = first_is_sum bounds rows c.requires.system c.args.number c.in_ok-first_row.field-0 c.requires.numbered c.in_ok-first_row.ensures.row in
    rw c.in_ok-push.ensures.items (All-push (IsSumRow bounds rows) c.args.list.items c.in_ok-first_row.field-0 c.requires.list row)

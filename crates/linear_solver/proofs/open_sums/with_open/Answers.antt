use Rattle.std.proofs.lemmas.List.Elements.{All-push}
use Rattle.linear_solver.specs.Follows.{IsSumRow}
use Rattle.linear_solver.proofs.open_sums.with_open.Goals as goal

pub returns : goal.returns
returns c =
    rw c.in_ok-push.ensures.items (All-push (IsSumRow c.args.bounds.now c.args.rows.now) c.args.sums.items c.args.sum c.requires.sums c.requires.sum)

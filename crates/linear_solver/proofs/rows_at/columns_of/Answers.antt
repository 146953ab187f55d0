use Rattle.std.proofs.Common.{arith, rules}
use Rattle.std.proofs.lemmas.List.FromFn.{map-range_with_len_more}
use Rattle.linear_solver.specs.LocalSearch.{column_of}
use Rattle.linear_solver.proofs.rows_at.columns_of.Goals as goal

pub loop-variable-preserved : goal.loop-variable-preserved
loop-variable-preserved c =
    let pushed = c.in_ok-push.ensures.items in
    let value = c.in_ok-column_of.ensures in
    let more = map-range_with_len_more (column_of c.args.rows.now) 0 c.loop-variable.variable c.loop-variable.variable (omega arith) in
    record { front = cc; len = search rules }

use Rattle.std.proofs.Common.{FitsSigned, to_z-of_z, arith, rules}
use Rattle.std.specs.Int.{w64}
use Rattle.std.proofs.lemmas.List.FromFn.{map-range_with_len_more}
use Rattle.linear_solver.specs.Elimination.{once}
use Rattle.linear_solver.proofs.first.once.Goals as goal

pub loop-other-preserved : goal.loop-other-preserved
loop-other-preserved c =
    let fits : FitsSigned w64 c.once_at.result = search rules in
    let pushed = simp to_z-of_z at c.in_ok-push.ensures.items in
    let value = c.once_at.ensures in
    let more = map-range_with_len_more (once c.args.number) 0 c.loop-other.other c.loop-other.other (omega arith) in
    record { front = cc; len = search rules }

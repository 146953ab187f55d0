use Rattle.std.proofs.Common.{if◌then◌else◌, [], int_lt, pos}
use Rattle.linear_solver.specs.declared.derived.Derived.{Derived}
use Rattle.linear_solver.specs.Elimination.{coef_of, sums_with}
use Rattle.linear_solver.proofs.Extensions.{stops}
use Rattle.linear_solver.proofs.elimination.sums_in.Goals as goal

pub returns-in-None : goal.returns-in-None
returns-in-None c =
    let list = c.args.list.now in
    let past = rw (c.in-None.is, c.p-item.is) at c.in_ok-more.ensures in
    stops (λ (p : Derived). if int_lt (pos 0) (coef_of c.args.variable p) then sums_with c.args.variable list p else []) [] c.loop-p.sums.items list c.loop-p.p-index c.p-item.result c.loop-p-test.true c.loop-p.invariant.front past

use Rattle.std.proofs.Common.{if◌then◌else◌, [], int_lt, pos}
use Rattle.linear_solver.specs.declared.derived.Derived.{Derived}
use Rattle.linear_solver.specs.Elimination.{coef_of, kept, sum_without}
use Rattle.linear_solver.proofs.Extensions.{stops}
use Rattle.linear_solver.proofs.elimination.with_sums.Goals as goal

pub returns-in-None : goal.returns-in-None
returns-in-None c =
    let list = c.args.list.now in
    let past = rw (c.in-None.is, c.q-item.is) at c.in_ok-more.ensures in
    stops (λ (q : Derived). if int_lt (coef_of c.args.variable q) (pos 0) then kept (sum_without c.args.variable c.args.p.now q) else []) c.args.sums.items c.loop-q.sums.items list c.loop-q.q-index c.q-item.result c.loop-q-test.true c.loop-q.invariant.front past

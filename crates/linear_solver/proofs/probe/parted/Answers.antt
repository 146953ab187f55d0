use Rattle.std.proofs.Common.{Some}
use Rattle.std.proofs.lemmas.List.Elements.{All-pop, All-push}
use Rattle.linear_solver.specs.Follows.{IsSumRow}
use Rattle.linear_solver.proofs.probe.parted.Goals as goal

pub loop-row-preserved-in-Continue-1 : goal.loop-row-preserved-in-Continue-1
loop-row-preserved-in-Continue-1 c = λ bounds rows of_list of_sums.
    let P = IsSumRow bounds rows in
    let before = c.loop-row.invariant bounds rows of_list of_sums in
    let popped = All-pop P c.loop-row.list.items c.pop.new.self.items (Some c.in-Some.row) c.in-Some.ensures.items before.0 in
    (popped.0, rw c.in_ok-push.ensures.items (All-push P c.loop-row.next.items c.in-Some.row before.1 popped.1))

pub loop-row-preserved : goal.loop-row-preserved
loop-row-preserved c = λ bounds rows of_list of_sums.
    let P = IsSumRow bounds rows in
    let before = c.loop-row.invariant bounds rows of_list of_sums in
    let popped = All-pop P c.loop-row.list.items c.pop.new.self.items (Some c.in-Some.row) c.in-Some.ensures.items before.0 in
    (popped.0, before.1)

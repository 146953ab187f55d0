use Rattle.std.proofs.Common.{arith}
use Rattle.core_table.specs.Public.{view_of}
use Rattle.core_calls.proofs.Drawn.{late_behind, noted_only, woke_behind, woke_late}
use Rattle.core_calls.proofs.actor.Actor.wake_next.Goals as goal

pub returns-then-at-self-clause-woken : goal.returns-then-at-self-clause-woken
returns-then-at-self-clause-woken g c =
    let v = view_of c.args.seat.now in let first = view_of c.has_due.new.seat in let w = view_of c.place-at.new.seat in let self = c.args.self.now in let reads = c.place-at.result.1 in
    let glimpsed = c.has_due.ensures.same in let seen = noted_only self.core first w glimpsed.of_core glimpsed.free c.place-at.ensures.seat.1 in let now = view_of c.wake_here.new.seat in
    woke_late self.core reads v (late_behind self.core reads v first glimpsed c.place-at.ensures.late) c.wake_here.result now
    (λ some. let due = c.has_due.ensures.few in let read = c.place-at.ensures.all in let woke = c.wake_here.ensures.few in omega (arith, due, read, woke))
    (woke_behind self.core reads v first glimpsed c.requires.may.of_core c.wake_here.result now
    (woke_behind self.core reads first w seen glimpsed.of_core c.wake_here.result now c.wake_here.ensures.woken))

pub returns-else-at-self-clause-woken : goal.returns-else-at-self-clause-woken
returns-else-at-self-clause-woken g c =
    let v = view_of c.args.seat.now in let first = view_of c.has_due.new.seat in let w = view_of c.place-at.new.seat in let self = c.args.self.now in let reads = c.place-at.result.1 in
    let glimpsed = c.has_due.ensures.same in let seen = noted_only self.core first w glimpsed.of_core glimpsed.free c.place-at.ensures.seat.1 in let now = view_of c.wake_away.new.seat in
    woke_late self.core reads v (late_behind self.core reads v first glimpsed c.place-at.ensures.late) c.wake_away.result now
    (λ some. let due = c.has_due.ensures.few in let read = c.place-at.ensures.all in let woke = c.wake_away.ensures.few in omega (arith, due, read, woke))
    (woke_behind self.core reads v first glimpsed c.requires.may.of_core c.wake_away.result now
    (woke_behind self.core reads first w seen glimpsed.of_core c.wake_away.result now c.wake_away.ensures.woken))

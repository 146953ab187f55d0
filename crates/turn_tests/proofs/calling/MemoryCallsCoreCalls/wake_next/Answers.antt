use Rattle.std.proofs.Common.{refl, sym, ◌∙◌}
use Rattle.turn_tests.proofs.Called.{has_woken, marked_ready, next_at, none_woken, step_ready, woken_is}
use Rattle.turn_tests.proofs.calling.MemoryCallsCoreCalls.wake_next.Goals as goal

pub add-requires-clause-next : goal.add-requires-clause-next
add-requires-clause-next g c =
    let n = c.next.ensures in let e = c.in-Some.entry in let w = woken_is c.next.result e (sym c.woken.ensures ∙ c.in-Some.is) in next_at c.args.self.now c.requires.ready c.next.result e w.0 n.legal n.acts

pub returns-in-Some-clause-ready : goal.returns-in-Some-clause-ready
returns-in-Some-clause-ready g c =
    let n = c.next.ensures in let e = c.in-Some.entry in let w = woken_is c.next.result e (sym c.woken.ensures ∙ c.in-Some.is) in
    step_ready c.args.self.now c.requires.ready c.next.result e w.0 n.legal n.acts c.add.new.self c.add.ensures.grown

pub returns-in-Some-clause-woken : goal.returns-in-Some-clause-woken
returns-in-Some-clause-woken g c =
    let n = c.next.ensures in let e = c.in-Some.entry in let wakes = sym c.woken.ensures ∙ c.in-Some.is in let w = woken_is c.next.result e wakes in
    has_woken c.args.self.now c.requires.ready c.next.result e w.0 n.legal n.acts c.add.new.self c.add.ensures.grown c.add.result c.add.ensures.at c.requires.may.entered n.step wakes

pub returns-in-None-clause-ready : goal.returns-in-None-clause-ready
returns-in-None-clause-ready g c =
    let it = c.args.self.now in let ready = c.requires.ready in (
      marked_ready it ready (none_woken it ready c.next.result c.requires.may.entered c.next.ensures.step (sym c.woken.ensures ∙ c.in-None.is)),
      record { policy = refl; plan = refl; core = refl; others = λ core apart. refl },
    )

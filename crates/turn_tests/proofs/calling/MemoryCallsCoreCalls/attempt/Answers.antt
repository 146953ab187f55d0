use Rattle.std.proofs.Common.{sym, subst}
use Rattle.core_calls.specs.Calls.{Tries}
use Rattle.steal_phase.specs.declared.outcome.Outcome.{Outcome}
use Rattle.turn_tests.specs.Memory.{view_of}
use Rattle.turn_tests.proofs.Called.{next_at, no_other, step_ready}
use Rattle.turn_tests.proofs.Stepping.{look_read, tried_entry, tries_by}
use Rattle.turn_tests.proofs.Trying.{tries_at}
use Rattle.turn_tests.proofs.calling.MemoryCallsCoreCalls.attempt.Goals as goal

pub next-requires-clause-look : goal.next-requires-clause-look
next-requires-clause-look g c = look_read c.args.self.now c.requires.ready c.args.look c.requires.may.may

pub add-requires-clause-next : goal.add-requires-clause-next
add-requires-clause-next g c = let n = c.next.ensures in next_at c.args.self.now c.requires.ready c.next.result c.in-Adds.entry c.in-Adds.is n.legal n.acts

pub unreachable-requires : goal.unreachable-requires
unreachable-requires g c =
    let it = c.args.self.now in let ready = c.requires.ready in let may = c.requires.may.may in
    no_other c.next.result (tried_entry it ready c.args.look may) (tries_by it ready c.args.look may c.next.result c.next.ensures.step) c.in-Looks.is

pub returns-clause-ready : goal.returns-clause-ready
returns-clause-ready g c =
    let n = c.next.ensures in step_ready c.args.self.now c.requires.ready c.next.result c.in-Adds.entry c.in-Adds.is n.legal n.acts c.add.new.self c.add.ensures.grown

pub returns-clause-tried : goal.returns-clause-tried
returns-clause-tried g c =
    let it = c.args.self.now in let n = c.next.ensures in
    subst (λ (o : Outcome). Tries c.args.look o (view_of it) (view_of c.add.new.self)) (sym c.outcome.ensures)
    (tries_at it c.requires.ready c.args.look c.requires.may.may c.next.result c.in-Adds.entry c.in-Adds.is n.legal n.acts c.add.new.self c.add.ensures.grown n.step c.add.result c.add.ensures.at)

use Rattle.turn_tests.proofs.Called.{has_entered, next_at, no_other, step_ready}
use Rattle.turn_tests.proofs.Stepping.{arrives}
use Rattle.turn_tests.proofs.calling.MemoryCallsCoreCalls.enter.Goals as goal

pub add-requires-clause-next : goal.add-requires-clause-next
add-requires-clause-next g c = let n = c.next.ensures in next_at c.args.self.now c.requires.ready c.next.result c.in-Adds.entry c.in-Adds.is n.legal n.acts

pub unreachable-requires : goal.unreachable-requires
unreachable-requires g c =
    let w = arrives c.args.self.now c.requires.ready c.args._thread c.next.result c.requires.may c.next.ensures.step in no_other c.next.result _ w.1 c.in-Looks.is

pub returns-clause-ready : goal.returns-clause-ready
returns-clause-ready g c =
    let n = c.next.ensures in step_ready c.args.self.now c.requires.ready c.next.result c.in-Adds.entry c.in-Adds.is n.legal n.acts c.add.new.self c.add.ensures.grown

pub returns-clause-entered : goal.returns-clause-entered
returns-clause-entered g c =
    let n = c.next.ensures in has_entered c.args.self.now c.requires.ready c.next.result c.in-Adds.entry c.in-Adds.is n.legal n.acts c.add.new.self c.add.ensures.grown
    c.args._thread c.add.result c.add.ensures.at c.requires.may n.step

use Rattle.std.proofs.Common.{sym, ◌∙◌}
use Rattle.round_model.specs.declared.entry.Entry.TheVariants as entry
use Rattle.turn_tests.specs.Memory.{core_of}
use Rattle.turn_tests.proofs.Called.{next_at, some_unit, step_adds, step_ready, unit_is}
use Rattle.turn_tests.proofs.calling.MemoryCallsCoreCalls.work.Goals as goal

pub add-requires-clause-next : goal.add-requires-clause-next
add-requires-clause-next g c =
    let it = c.args.self.now in let n = c.next.ensures in let d = c.in-Some.did in
    next_at it c.requires.ready c.next.result (entry.Work (core_of it) d) (unit_is it c.requires.ready c.next.result d c.requires.may n.step (sym c.did.ensures ∙ c.in-Some.is)) n.legal n.acts

pub unreachable-requires : goal.unreachable-requires
unreachable-requires g c = some_unit c.args.self.now c.requires.ready c.next.result c.requires.may c.next.ensures.step (sym c.did.ensures ∙ c.in-None.is)

pub returns-clause-ready : goal.returns-clause-ready
returns-clause-ready g c =
    let it = c.args.self.now in let n = c.next.ensures in let d = c.in-Some.did in
    step_ready it c.requires.ready c.next.result (entry.Work (core_of it) d) (unit_is it c.requires.ready c.next.result d c.requires.may n.step (sym c.did.ensures ∙ c.in-Some.is)) n.legal n.acts
    c.add.new.self c.add.ensures.grown

pub returns-clause-worked : goal.returns-clause-worked
returns-clause-worked g c =
    let it = c.args.self.now in let n = c.next.ensures in let d = c.in-Some.did in
    record {
      at = c.add.result;
      adds = step_adds it c.requires.ready c.next.result (entry.Work (core_of it) d) (unit_is it c.requires.ready c.next.result d c.requires.may n.step (sym c.did.ensures ∙ c.in-Some.is)) n.legal n.acts
          c.add.new.self c.add.ensures.grown c.add.result c.add.ensures.at;
    }

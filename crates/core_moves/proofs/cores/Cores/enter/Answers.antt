use Rattle.std.proofs.Common.{◌≡◌, ap, sym, subst, is_some, false}
use Rattle.policy_tree.specs.Meaning.{meaning_of}
use Rattle.policy_eval.specs.Fitting.{IsTask}
use Rattle.round_model.specs.Programs.{planned_of}
use Rattle.round_model.proofs.Keeping.{entering_fits}
use Rattle.core_moves.proofs.Entering.{at_in, can_come, can_note, ends, entries_few, is_planned}
use Rattle.core_moves.proofs.cores.Cores.enter.Goals as goal

pub unreachable-requires : goal.unreachable-requires
unreachable-requires c =
    let p = meaning_of c.args.policy.now in let next = c.requires.next in
    let some = is_planned p c.args.plan.now next.0 c.args.thread c.args.by c.args.at c.args.reads c.args.self.now next.1 in
    let none : is_some (planned_of c.args.plan.now c.args.thread) ≡ false = ap is_some c.in_default.ensures in
    absurd (cc)

pub admit-requires-clause-task : goal.admit-requires-clause-task
admit-requires-clause-task c =
    let p = meaning_of c.args.policy.now in
    subst (IsTask p) (sym c.entering_task.ensures) (entering_fits p c.args.plan.now c.requires.fits c.args.thread c.in-Some.planned.now c.in-Some.ensures)

pub admit-requires-clause-core : goal.admit-requires-clause-core
admit-requires-clause-core c =
    let next = c.requires.next in
    at_in (meaning_of c.args.policy.now) c.args.plan.now next.0 c.args.thread c.args.by c.args.at c.args.reads c.args.self.now next.1

pub admit-requires-clause-can : goal.admit-requires-clause-can
admit-requires-clause-can c =
    let next = c.requires.next in
    can_come (meaning_of c.args.policy.now) c.args.plan.now next.0 c.args.thread c.args.by c.args.at c.args.reads c.args.self.now next.1 c.requires.fits c.requires.handlers

pub note-requires-clause-room : goal.note-requires-clause-room
note-requires-clause-room c =
    let next = c.requires.next in
    entries_few (meaning_of c.args.policy.now) c.args.plan.now next.0 c.args.thread c.args.by c.args.at c.args.reads c.args.self.now next.1
    c.admit.new.self c.in-Some.planned.now c.in-Some.ensures c.entering_task.result c.entering_task.ensures (c.admit.ensures (meaning_of c.args.policy.now))

pub note-requires-clause-can : goal.note-requires-clause-can
note-requires-clause-can c =
    let next = c.requires.next in
    can_note (meaning_of c.args.policy.now) c.args.plan.now next.0 c.args.thread c.args.by c.args.at c.args.reads c.args.self.now next.1
    c.admit.new.self c.in-Some.planned.now c.in-Some.ensures c.entering_task.result c.entering_task.ensures (c.admit.ensures (meaning_of c.args.policy.now))

pub returns : goal.returns
returns c h may =
    ends (meaning_of c.args.policy.now) c.args.plan.now h c.args.thread c.args.by c.args.at c.args.reads c.args.self.now may
    c.admit.new.self c.in-Some.planned.now c.in-Some.ensures c.entering_task.result c.entering_task.ensures (c.admit.ensures (meaning_of c.args.policy.now)) c.note.new.self c.note.ensures

use Rattle.policy_tree.specs.Meaning.{meaning_of}
use Rattle.core_moves.proofs.Waking.{at_in, by_in, can_come, can_note, ends, entries_few, is_blocked, task_fits}
use Rattle.core_moves.proofs.cores.Cores.wake.Goals as goal

pub release-task-requires-clause-core : goal.release-task-requires-clause-core
release-task-requires-clause-core c =
    let next = c.requires.next in
    by_in (meaning_of c.args.policy.now) c.args.plan.now next.0 c.args.thread c.args.by c.args.at c.args.reads c.args.self.now next.1

pub release-task-requires-clause-there : goal.release-task-requires-clause-there
release-task-requires-clause-there c =
    let next = c.requires.next in
    is_blocked (meaning_of c.args.policy.now) c.args.plan.now next.0 c.args.thread c.args.by c.args.at c.args.reads c.args.self.now next.1

pub admit-requires-clause-task : goal.admit-requires-clause-task
admit-requires-clause-task c =
    let next = c.requires.next in
    task_fits (meaning_of c.args.policy.now) c.args.plan.now next.0 c.args.thread c.args.by c.args.at c.args.reads c.args.self.now next.1
    c.release-task.new.self c.release-task.result c.release-task.ensures.task (c.release-task.ensures.core (meaning_of c.args.policy.now)) c.requires.fits c.requires.handlers

pub admit-requires-clause-core : goal.admit-requires-clause-core
admit-requires-clause-core c =
    let next = c.requires.next in
    at_in (meaning_of c.args.policy.now) c.args.plan.now next.0 c.args.thread c.args.by c.args.at c.args.reads c.args.self.now next.1
    c.release-task.new.self c.release-task.result c.release-task.ensures.task (c.release-task.ensures.core (meaning_of c.args.policy.now))

pub admit-requires-clause-can : goal.admit-requires-clause-can
admit-requires-clause-can c =
    let next = c.requires.next in
    can_come (meaning_of c.args.policy.now) c.args.plan.now next.0 c.args.thread c.args.by c.args.at c.args.reads c.args.self.now next.1
    c.release-task.new.self c.release-task.result c.release-task.ensures.task (c.release-task.ensures.core (meaning_of c.args.policy.now)) c.requires.fits c.requires.handlers

pub note-requires-clause-room : goal.note-requires-clause-room
note-requires-clause-room c =
    let next = c.requires.next in
    entries_few (meaning_of c.args.policy.now) c.args.plan.now next.0 c.args.thread c.args.by c.args.at c.args.reads c.args.self.now next.1
    c.release-task.new.self c.release-task.result c.release-task.ensures.task (c.release-task.ensures.core (meaning_of c.args.policy.now))
    c.admit.new.self (c.admit.ensures (meaning_of c.args.policy.now))

pub note-requires-clause-can : goal.note-requires-clause-can
note-requires-clause-can c =
    let next = c.requires.next in
    can_note (meaning_of c.args.policy.now) c.args.plan.now next.0 c.args.thread c.args.by c.args.at c.args.reads c.args.self.now next.1
    c.release-task.new.self c.release-task.result c.release-task.ensures.task (c.release-task.ensures.core (meaning_of c.args.policy.now))
    c.admit.new.self (c.admit.ensures (meaning_of c.args.policy.now))

pub returns : goal.returns
returns c h may =
    ends (meaning_of c.args.policy.now) c.args.plan.now h c.args.thread c.args.by c.args.at c.args.reads c.args.self.now may
    c.release-task.new.self c.release-task.result c.release-task.ensures.task (c.release-task.ensures.core (meaning_of c.args.policy.now))
    c.admit.new.self (c.admit.ensures (meaning_of c.args.policy.now)) c.note.new.self c.note.ensures

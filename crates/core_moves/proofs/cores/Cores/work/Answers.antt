use Rattle.policy_tree.specs.Meaning.{meaning_of}
use Rattle.core_moves.proofs.Working.{can_note, core_in, ends, entries_few, round_few, runs}
use Rattle.core_moves.proofs.cores.Cores.work.Goals as goal

pub run-did-requires-clause-core : goal.run-did-requires-clause-core
run-did-requires-clause-core c =
    let may = c.requires.may in
    core_in (meaning_of c.args.policy.now) c.args.plan.now may.0 c.args.core c.args.round c.args.self.now may.1

pub run-did-requires-clause-can : goal.run-did-requires-clause-can
run-did-requires-clause-can c =
    let may = c.requires.may in
    runs (meaning_of c.args.policy.now) c.args.plan.now may.0 c.args.core c.args.round c.args.self.now may.1 c.requires.fits c.requires.handlers

pub run-did-requires-clause-round : goal.run-did-requires-clause-round
run-did-requires-clause-round c =
    let may = c.requires.may in
    round_few (meaning_of c.args.policy.now) c.args.plan.now may.0 c.args.core c.args.round c.args.self.now may.1

pub note-requires-clause-room : goal.note-requires-clause-room
note-requires-clause-room c =
    let may = c.requires.may in
    entries_few (meaning_of c.args.policy.now) c.args.plan.now may.0 c.args.core c.args.round c.args.self.now may.1
    c.run-did.new.self (c.run-did.ensures.core (meaning_of c.args.policy.now))

pub note-requires-clause-can : goal.note-requires-clause-can
note-requires-clause-can c =
    let may = c.requires.may in
    can_note (meaning_of c.args.policy.now) c.args.plan.now may.0 c.args.core c.args.round c.args.self.now may.1
    c.run-did.new.self (c.run-did.ensures.core (meaning_of c.args.policy.now))

pub returns : goal.returns
returns c h may =
    ends (meaning_of c.args.policy.now) c.args.plan.now h c.args.core c.args.round c.args.self.now may
    c.run-did.new.self (c.run-did.ensures.core (meaning_of c.args.policy.now))
    c.note.new.self c.run-did.result c.run-did.ensures.did c.note.ensures

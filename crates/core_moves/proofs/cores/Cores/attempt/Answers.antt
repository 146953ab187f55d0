use Rattle.std.proofs.Common.{[], ◌++◌, ◌∷◌, arith}
use Rattle.policy_tree.specs.Meaning.{meaning_of}
use Rattle.round_model.specs.After.{after}
use Rattle.core_moves.proofs.Shown.{can_log, entries_fit}
use Rattle.core_moves.proofs.cores.Cores.attempt.Goals as goal

pub note-requires-clause-room : goal.note-requires-clause-room
note-requires-clause-room c =
    let p = meaning_of c.args.policy.now in let plan = c.args.plan.now in let h = c.requires.reached.0 in let are = c.requires.reached.1.are in
    entries_fit p plan h (after p plan (h ++ c.move_by-entry.result ∷ [])) c.move_by-entry.new.self (c.move_by-entry.ensures.cores h are) (omega (arith, c.requires.room, are.entries))

pub note-requires-clause-can : goal.note-requires-clause-can
note-requires-clause-can c =
    let p = meaning_of c.args.policy.now in let plan = c.args.plan.now in let h = c.requires.reached.0 in let are = c.requires.reached.1.are in
    can_log p plan h (after p plan (h ++ c.move_by-entry.result ∷ [])) c.move_by-entry.new.self (c.move_by-entry.ensures.cores h are) (omega (arith, c.requires.room, are.entries))

pub returns-clause-cores : goal.returns-clause-cores
returns-clause-cores c h are =
    let p = meaning_of c.args.policy.now in let plan = c.args.plan.now in
    c.note.ensures p plan h (after p plan (h ++ c.move_by-entry.result ∷ [])) (c.move_by-entry.ensures.cores h are)

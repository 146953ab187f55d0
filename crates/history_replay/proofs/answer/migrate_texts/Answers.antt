use Rattle.policy_tree.specs.Meaning.{meaning_of}
use Rattle.history_replay.proofs.Migrating.{can_be_printed}
use Rattle.history_replay.proofs.answer.migrate_texts.Goals as goal

pub returns-in-Ok-clause-shown : goal.returns-in-Ok-clause-shown
returns-in-Ok-clause-shown c =
    can_be_printed (meaning_of c.args.policy.now) c.args.trace.now c.args.history.now c.in-Ok.judged c.in-Ok.ensures.judged

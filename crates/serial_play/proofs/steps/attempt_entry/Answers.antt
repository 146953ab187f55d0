use Rattle.std.proofs.Common.{◌∙◌, ap}
use Rattle.policy_tree.specs.Meaning.{meaning_of}
use Rattle.round_model.specs.declared.attempt.Attempt.TheVariants as attempt
use Rattle.round_model.specs.Outcomes.{entry_of_attempt}
use Rattle.serial_steps.proofs.Turning.{attempt_may}
use Rattle.serial_play.proofs.NextSteps.{read_fit}
use Rattle.serial_play.proofs.steps.attempt_entry.Goals as goal

pub returns-in-Pass-clause-legal : goal.returns-in-Pass-clause-legal
returns-in-Pass-clause-legal c history stands begun owes =
    let p = meaning_of c.args.policy.now in let plan = c.args.plan.now in
    attempt_may p plan history c.args.core c.args.reads attempt.Pass (read_fit p plan c.args.past.now history c.args.reads stands c.requires.read)
    (c.attempt.ensures history stands ∙ ap (entry_of_attempt c.args.core c.args.reads) c.in-Pass.is) begun c.requires.core owes

pub returns-in-Fail-clause-legal : goal.returns-in-Fail-clause-legal
returns-in-Fail-clause-legal c history stands begun owes =
    let p = meaning_of c.args.policy.now in let plan = c.args.plan.now in
    attempt_may p plan history c.args.core c.args.reads (attempt.Fail c.in-Fail.from) (read_fit p plan c.args.past.now history c.args.reads stands c.requires.read)
    (c.attempt.ensures history stands ∙ ap (entry_of_attempt c.args.core c.args.reads) c.in-Fail.is) begun c.requires.core owes

pub returns-in-Steal-clause-legal : goal.returns-in-Steal-clause-legal
returns-in-Steal-clause-legal c history stands begun owes =
    let p = meaning_of c.args.policy.now in let plan = c.args.plan.now in
    attempt_may p plan history c.args.core c.args.reads (attempt.Steal c.in-Steal.from c.in-Steal.threads) (read_fit p plan c.args.past.now history c.args.reads stands c.requires.read)
    (c.attempt.ensures history stands ∙ ap (entry_of_attempt c.args.core c.args.reads) c.in-Steal.is) begun c.requires.core owes

-- The systems say what both statements say.
use Rattle.std.proofs.Common.{subst, sym}
use Rattle.policy_tree.specs.Meaning.{meaning_of}
use Rattle.policy_eval.specs.Obligations.{batch_leaves_last, filter_leaves_last}
use Rattle.obligations.specs.Laws.{SayTheLast}
use Rattle.obligations.proofs.Law.{systems_are_statements}
use Rattle.obligations.proofs.last_threads.last_waiting.Goals as goal

pub returns-in-Ok-clause-says : goal.returns-in-Ok-clause-says
returns-in-Ok-clause-says c =
    let p = meaning_of c.args.policy.now in
    subst (SayTheLast p) (sym c.in-Ok.ensures)
    (systems_are_statements p c.requires filter_leaves_last, systems_are_statements p c.requires batch_leaves_last)

use Rattle.std.proofs.Common.{ap, ◌∙◌, sym, arith}
use Rattle.policy_tree.specs.Meaning.{meaning_of}
use Rattle.round_model.specs.After.{after}
use Rattle.round_model.specs.Attempts.{attempt_of, attempt_with}
use Rattle.round_model.proofs.Once.{queues_once}
use Rattle.round_judge.proofs.glances.attempt.Goals as goal

pub outcome-requires-clause-few : goal.outcome-requires-clause-few
outcome-requires-clause-few c = omega (arith, c.requires.past.total, c.requires.fits.few_threads)

pub returns : goal.returns
unfolding attempt_of
returns c history stands =
    let p = meaning_of c.args.policy.now in let plan = c.args.plan.now in let reads = c.args.reads.now in
    let m = after p plan history in
    sym (ap (attempt_with p plan m c.args.core reads) (c.chosen-chosen.ensures.choice history stands))
    ∙ c.outcome.ensures m reads stands.state (queues_once p plan history c.requires.fits c.requires.handlers stands.legal)

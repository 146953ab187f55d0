use Rattle.std.proofs.Common.{refl}
use Rattle.policy_tree.specs.Meaning.{meaning_of}
use Rattle.core_worker.proofs.Beginning.{may_begin, run_begun}
use Rattle.core_worker.proofs.run.Run.begin.Goals as goal

pub returns : goal.returns
returns c s may =
    let p = meaning_of c.args.policy.now in let plan = c.args.plan.now in
    run_begun p plan c.requires.fits c.requires.handlers c.args.number c.args.self.now _ s may
    (c.begin.ensures p plan s.history (may_begin p plan c.requires.fits c.requires.handlers c.args.number c.args.self.now s may))
    refl c.begin-2.ensures c.await_all.ensures.threads c.await_all.ensures.room refl

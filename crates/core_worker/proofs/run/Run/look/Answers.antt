use Rattle.std.proofs.Common.{arith}
use Rattle.policy_tree.specs.Meaning.{meaning_of}
use Rattle.core_worker.proofs.Stepping.{moment_looked}
use Rattle.core_worker.proofs.run.Run.look.Goals as goal

pub returns : goal.returns
returns c s m is =
    let p = meaning_of c.args.policy.now in let plan = c.args.plan.now in
    let few = c.requires.limits.few_cores in let there = c.requires.core in
    moment_looked p plan c.requires.fits c.requires.handlers c.args.self.now s c.args.core m c.requires.core _ is (omega arith)
    (c.fresh_reads.ensures p c.args.core s.history m.at.cores) (c.choice.ensures.choice s.history m.at.cores) c.choice.ensures.there

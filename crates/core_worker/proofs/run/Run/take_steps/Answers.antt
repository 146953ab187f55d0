use Rattle.std.proofs.Common.{take}
use Rattle.policy_tree.specs.Meaning.{meaning_of}
use Rattle.core_worker.proofs.Turning.{still_at}
use Rattle.core_worker.proofs.run.Run.take_steps.Goals as goal

pub advance-more-requires-clause-at : goal.advance-more-requires-clause-at
advance-more-requires-clause-at c =
    still_at (meaning_of c.args.policy.now) c.args.plan.now (take c.loop-core.core-index c.args.cores.now) c.args.self.now c.loop-core.self c.requires.at c.loop-core.invariant

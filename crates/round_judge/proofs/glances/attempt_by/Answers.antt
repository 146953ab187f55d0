use Rattle.std.proofs.Common.{refl}
use Rattle.policy_tree.specs.Meaning.{meaning_of}
use Rattle.round_judge.proofs.glances.attempt_by.Goals as goal

pub returns : goal.returns
returns c history stands = ((c.if-not-were_made.ensures.fit (meaning_of c.args.policy.now) history stands).0 refl, c.attempt.ensures history stands)

-- Where all certificates are kept, those of the handlers are.
use Rattle.policy_tree.specs.Meaning.{meaning_of}
use Rattle.policy_checker.proofs.KeptHandlers.{kept_of_all}
use Rattle.policy_checker.proofs.accepted.AcceptedPolicy.into_playable.Goals as goal

pub new-requires-clause-kept : goal.new-requires-clause-kept
new-requires-clause-kept c = kept_of_all (meaning_of c.self.inside.policy) c.self.inside.answers c.self.invariant.1

-- What is answered rightly is answered as it must be, and a policy that a file proves meets its statements.
use Rattle.policy_tree.specs.Meaning.{meaning_of}
use Rattle.cert_file.proofs.Must.{must_answer}
use Rattle.cert_file.proofs.Whole.{verified_meet}
use Rattle.cert_file.proofs.verifying.verify.Goals as goal

pub returns-clause-meets : goal.returns-clause-meets
returns-clause-meets c = verified_meet (meaning_of c.args.policy.now) c.args.text.now c.answer_of.result c.requires.resolved c.answer_of.ensures.verified

pub returns-clause-must : goal.returns-clause-must
returns-clause-must c = must_answer (meaning_of c.args.policy.now) c.args.text.now c.answer_of.result c.answer_of.ensures.verified c.answer_of.ensures.cause

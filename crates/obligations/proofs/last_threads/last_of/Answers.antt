-- Where no obligation has too many cases, neither statement has: they have as many as the second and the fourth.
use Rattle.policy_tree.specs.Meaning.{meaning_of}
use Rattle.obligations.specs.declared.names.ObName.TheVariants as name
use Rattle.obligations.proofs.Few.{few_cases, few_moves}
use Rattle.obligations.proofs.last_threads.last_of.Goals as goal

pub question_of-requires-clause-few : goal.question_of-requires-clause-few
question_of-requires-clause-few c = few_cases (meaning_of c.args.policy.now) name.B2 c.requires.few

pub question_of-requires-2-clause-few : goal.question_of-requires-2-clause-few
question_of-requires-2-clause-few c = let p = meaning_of c.args.policy.now in few_moves p p.batch (few_cases p name.B4 c.requires.few)

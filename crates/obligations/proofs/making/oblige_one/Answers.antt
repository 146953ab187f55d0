-- Where none of the names has too many cases, this one hasn't.
use Rattle.std.proofs.Common.{sym}
use Rattle.policy_tree.specs.Meaning.{meaning_of}
use Rattle.obligations.proofs.Few.{few_cases}
use Rattle.obligations.proofs.making.oblige_one.Goals as goal

pub obligation_of-requires-clause-few : goal.obligation_of-requires-clause-few
obligation_of-requires-clause-few c = few_cases (meaning_of c.args.policy.now) c.args.name (sym c.in_default.ensures)

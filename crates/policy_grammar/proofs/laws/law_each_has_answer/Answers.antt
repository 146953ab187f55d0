-- Reading comes to a policy or to a fault.
use Rattle.policy_grammar.proofs.Total.{each_has_answer}
use Rattle.policy_grammar.proofs.laws.law_each_has_answer.Goals as goal

pub returns : goal.returns
returns c = each_has_answer

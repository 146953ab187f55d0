-- Reading comes to a level text or to a fault.
use Rattle.policy_grammar.proofs.Total.{each_has_level_answer}
use Rattle.policy_grammar.proofs.laws.law_each_has_level_answer.Goals as goal

pub returns : goal.returns
returns c = each_has_level_answer

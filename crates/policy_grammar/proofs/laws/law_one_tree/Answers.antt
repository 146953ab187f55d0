use Rattle.policy_grammar.proofs.OnePolicies.{policy-one}
use Rattle.policy_grammar.proofs.laws.law_one_tree.Goals as goal

pub returns : goal.returns
returns c = λ text ts syntax is other too. policy-one text ts too is

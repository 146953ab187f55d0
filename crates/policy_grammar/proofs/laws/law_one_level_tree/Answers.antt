use Rattle.policy_grammar.proofs.OneLevels.{level_text-one}
use Rattle.policy_grammar.proofs.laws.law_one_level_tree.Goals as goal

pub returns : goal.returns
returns c = λ text ts syntax is other too. level_text-one text ts too is

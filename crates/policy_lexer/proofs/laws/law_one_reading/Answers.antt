use Rattle.policy_lexer.proofs.Answered.{tokens-same}
use Rattle.policy_lexer.proofs.laws.law_one_reading.Goals as goal

pub returns : goal.returns
returns c = λ text one other spells too. tokens-same text one other spells too

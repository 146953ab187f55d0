use Rattle.policy_lexer.proofs.Answered.{reads_it, refuses_it}
use Rattle.policy_lexer.proofs.reading.lex.Goals as goal

pub returns-clause-reads : goal.returns-clause-reads
returns-clause-reads c = λ tokens. reads_it _ _ tokens c.read.ensures.tokens c.read.ensures.fault

pub returns-clause-refuses : goal.returns-clause-refuses
returns-clause-refuses c = λ fault. refuses_it _ _ fault c.read.ensures.tokens c.read.ensures.fault

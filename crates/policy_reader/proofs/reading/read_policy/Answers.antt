-- A text has one answer, so what is answered is what it has.
use Rattle.policy_reader.proofs.Answered.{reads_it, refuses_it}
use Rattle.policy_reader.proofs.reading.read_policy.Goals as goal

pub returns-clause-reads : goal.returns-clause-reads
returns-clause-reads c = λ p spells. reads_it c.args.text.now c.read.result p c.read.ensures.policy c.read.ensures.fault spells

pub returns-clause-refuses : goal.returns-clause-refuses
returns-clause-refuses c = λ fault has. refuses_it c.args.text.now c.read.result fault c.read.ensures.policy c.read.ensures.fault has

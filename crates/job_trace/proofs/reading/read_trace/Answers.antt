use Rattle.job_trace.proofs.AnswerLemmas.{breaks_it, reads_it, refuses_it, spells_it}
use Rattle.job_trace.proofs.reading.read_trace.Goals as goal

pub returns-clause-trace : goal.returns-clause-trace
returns-clause-trace c = spells_it c.args.text.now c.read.result c.read.ensures

pub returns-clause-fault : goal.returns-clause-fault
returns-clause-fault c = breaks_it c.args.text.now c.read.result c.read.ensures

pub returns-clause-reads : goal.returns-clause-reads
returns-clause-reads c = reads_it c.args.text.now c.read.result c.read.ensures

pub returns-clause-refuses : goal.returns-clause-refuses
returns-clause-refuses c = refuses_it c.args.text.now c.read.result c.read.ensures

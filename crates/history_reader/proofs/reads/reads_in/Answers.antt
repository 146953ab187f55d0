use Rattle.history_reader.proofs.ReadsTexts.{first_reads}
use Rattle.history_reader.proofs.reads.reads_in.Goals as goal

pub returns-in-First : goal.returns-in-First
returns-in-First c = first_reads c.args.text.now c.args.form c.up_to.result c.in-First.is c.up_to.ensures

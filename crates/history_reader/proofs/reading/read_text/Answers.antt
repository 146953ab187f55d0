use Rattle.history_reader.proofs.WholeTexts.{fault_behind, history_behind}
use Rattle.history_reader.proofs.reading.read_text.Goals as goal

pub returns-in-Some-clause-history : goal.returns-in-Some-clause-history
returns-in-Some-clause-history c =
    history_behind c.args.cores c.args.text.now c.in-Some.lines.now c.in-Some.ensures c.read_lines.result c.read_lines.ensures.history

pub returns-in-Some-clause-fault : goal.returns-in-Some-clause-fault
returns-in-Some-clause-fault c =
    fault_behind c.args.cores c.args.text.now c.in-Some.lines.now c.in-Some.ensures c.read_lines.result c.read_lines.ensures.fault

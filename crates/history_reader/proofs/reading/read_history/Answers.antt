use Rattle.history_reader.proofs.WholeTexts.{must_give, must_refuse}
use Rattle.history_reader.proofs.reading.read_history.Goals as goal

pub returns-clause-reads : goal.returns-clause-reads
returns-clause-reads c = must_give c.args.cores c.args.text.now c.read_text.result c.read_text.ensures.history
    c.read_text.ensures.fault

pub returns-clause-refuses : goal.returns-clause-refuses
returns-clause-refuses c = must_refuse c.args.cores c.args.text.now c.read_text.result c.read_text.ensures.history
    c.read_text.ensures.fault

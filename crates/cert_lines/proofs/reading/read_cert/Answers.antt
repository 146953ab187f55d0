use Rattle.cert_lines.proofs.OneReading.{must_give, must_refuse}
use Rattle.cert_lines.proofs.reading.read_cert.Goals as goal

pub returns-clause-reads : goal.returns-clause-reads
returns-clause-reads c = must_give c.args.text.now c.read_whole.result c.read_whole.ensures.cert c.read_whole.ensures.fault

pub returns-clause-refuses : goal.returns-clause-refuses
returns-clause-refuses c = must_refuse c.args.text.now c.read_whole.result c.read_whole.ensures.cert c.read_whole.ensures.fault

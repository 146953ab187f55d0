use Rattle.cert_lines.proofs.OneReading.{one_reading}
use Rattle.cert_lines.proofs.laws.law_one_reading.Goals as goal

pub returns : goal.returns
returns c = one_reading

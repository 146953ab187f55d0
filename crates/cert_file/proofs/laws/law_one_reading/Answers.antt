use Rattle.cert_file.proofs.OneFile.{one_reading}
use Rattle.cert_file.proofs.laws.law_one_reading.Goals as goal

pub returns : goal.returns
returns c = one_reading

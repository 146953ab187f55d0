use Rattle.cert_file.proofs.Must.{written_verified}
use Rattle.cert_file.proofs.laws.law_written.Goals as goal

pub returns : goal.returns
returns c = written_verified

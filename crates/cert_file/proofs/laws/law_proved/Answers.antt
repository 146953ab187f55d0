use Rattle.cert_file.proofs.Whole.{proved_meet}
use Rattle.cert_file.proofs.laws.law_proved.Goals as goal

pub returns : goal.returns
returns c = proved_meet

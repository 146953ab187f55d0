use Rattle.turn_laws.proofs.Shares.{fair_share}
use Rattle.turn_laws.proofs.laws.law_fair_share.Goals as goal

pub returns : goal.returns
returns c = fair_share

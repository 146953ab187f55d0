use Rattle.round_model.proofs.Histories.{open_round}
use Rattle.round_model.proofs.laws.law_open_round.Goals as goal

pub returns : goal.returns
returns c = open_round

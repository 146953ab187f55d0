use Rattle.round_model.proofs.Bursts.{have_bursts}
use Rattle.round_model.proofs.laws.law_bursts.Goals as goal

pub returns : goal.returns
returns c = have_bursts

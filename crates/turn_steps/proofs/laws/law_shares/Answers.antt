use Rattle.turn_steps.proofs.Sharing.{shares}
use Rattle.turn_steps.proofs.laws.law_shares.Goals as goal

pub returns : goal.returns
returns c = shares

use Rattle.round_laws.proofs.StillRounds.{still_rounds}
use Rattle.round_laws.proofs.laws.law_still_rounds.Goals as goal

pub returns : goal.returns
returns c = still_rounds

use Rattle.round_laws.proofs.FailedSteals.{failed_steals}
use Rattle.round_laws.proofs.laws.law_failed_steals.Goals as goal

pub returns : goal.returns
returns c = failed_steals

use Rattle.turn_steps.proofs.Sharing.{one_worker}
use Rattle.turn_steps.proofs.laws.law_one_worker.Goals as goal

pub returns : goal.returns
returns c = one_worker

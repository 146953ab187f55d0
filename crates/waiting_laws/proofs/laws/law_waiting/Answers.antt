use Rattle.waiting_laws.proofs.Waiting.{waiting_law}
use Rattle.waiting_laws.proofs.laws.law_waiting.Goals as goal

pub returns : goal.returns
returns c = waiting_law

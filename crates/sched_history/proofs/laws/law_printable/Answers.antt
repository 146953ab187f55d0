use Rattle.sched_history.proofs.Printable.{legal_is_printable}
use Rattle.sched_history.proofs.laws.law_printable.Goals as goal

pub returns : goal.returns
returns c = legal_is_printable

use Rattle.sched_report.proofs.PaidLemmas.{bad_exactly}
use Rattle.sched_report.proofs.laws.law_bad_rounds.Goals as goal

pub returns : goal.returns
returns c = λ p plan history row whole among. bad_exactly p plan history whole row among

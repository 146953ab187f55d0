use Rattle.sched_report.proofs.WasteLemmas.{waste_law}
use Rattle.sched_report.proofs.laws.law_waste.Goals as goal

pub returns : goal.returns
returns c = waste_law

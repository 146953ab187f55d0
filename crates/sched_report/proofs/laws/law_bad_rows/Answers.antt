use Rattle.sched_report.proofs.BesideLemmas.{bad_is_beside, beside_is_bad}
use Rattle.sched_report.proofs.laws.law_bad_rows.Goals as goal

pub returns : goal.returns
returns c = λ p plan m number. (bad_is_beside plan m p number, beside_is_bad plan m p number)

use Rattle.sched_report.proofs.RestRows.{rest_rows}
use Rattle.sched_report.proofs.laws.law_rest_rows.Goals as goal

pub returns : goal.returns
returns c = rest_rows

use Rattle.row_tests.proofs.TakenLast.{three_cores_counts}
use Rattle.row_tests.proofs.bounds.three_cores_counts.Goals as goal

pub returns : goal.returns
returns c = three_cores_counts

use Rattle.model_tests.proofs.SerialRows.{two_cores_one_steal}
use Rattle.model_tests.proofs.serial.two_cores_one_steal.Goals as goal

pub returns : goal.returns
returns c = two_cores_one_steal

use Rattle.row_tests.proofs.HundredCores.{hundred_cores_keep_laws}
use Rattle.row_tests.proofs.machines.law_on_hundred_cores.Goals as goal

pub returns : goal.returns
returns c = hundred_cores_keep_laws

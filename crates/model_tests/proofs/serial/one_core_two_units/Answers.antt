use Rattle.model_tests.proofs.SerialRows.{one_core_two_units}
use Rattle.model_tests.proofs.serial.one_core_two_units.Goals as goal

pub returns : goal.returns
returns c = one_core_two_units

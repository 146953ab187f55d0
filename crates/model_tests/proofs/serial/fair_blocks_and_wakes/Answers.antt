use Rattle.model_tests.proofs.SerialRows.{fair_blocks_and_wakes}
use Rattle.model_tests.proofs.serial.fair_blocks_and_wakes.Goals as goal

pub returns : goal.returns
returns c = fair_blocks_and_wakes

use Rattle.model_tests.proofs.SerialRows.{eight_threads_spread}
use Rattle.model_tests.proofs.serial.eight_threads_spread.Goals as goal

pub returns : goal.returns
returns c = eight_threads_spread

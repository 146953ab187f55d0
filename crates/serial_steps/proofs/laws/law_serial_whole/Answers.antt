use Rattle.serial_steps.proofs.SerialWholes.{serial_whole_law}
use Rattle.serial_steps.proofs.laws.law_serial_whole.Goals as goal

pub returns : goal.returns
returns c = serial_whole_law

use Rattle.serial_steps.proofs.SerialWholes.{serial_rounds_law}
use Rattle.serial_steps.proofs.laws.law_serial_rounds.Goals as goal

pub returns : goal.returns
returns c = serial_rounds_law

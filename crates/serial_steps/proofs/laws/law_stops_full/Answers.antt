use Rattle.serial_steps.proofs.SerialWholes.{stops_full_law}
use Rattle.serial_steps.proofs.laws.law_stops_full.Goals as goal

pub returns : goal.returns
returns c = stops_full_law

use Rattle.c_printer.proofs.WidthBounds.{wide_enough}
use Rattle.c_printer.proofs.laws.law_widths.Goals as goal

pub returns : goal.returns
returns c = wide_enough

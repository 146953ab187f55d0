use Rattle.trace_printer.proofs.ReadAgain.{read-again}
use Rattle.trace_printer.proofs.laws.law_read_again.Goals as goal

pub returns : goal.returns
returns c = read-again

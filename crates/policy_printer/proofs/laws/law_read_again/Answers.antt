use Rattle.policy_printer.proofs.ReadAgain.{printed-again}
use Rattle.policy_printer.proofs.laws.law_read_again.Goals as goal

pub returns : goal.returns
returns c = printed-again

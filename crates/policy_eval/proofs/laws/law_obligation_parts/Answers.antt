use Rattle.policy_eval.proofs.Statements.{all_obligations, balance_obligations, handler_obligations}
use Rattle.policy_eval.proofs.laws.law_obligation_parts.Goals as goal

pub returns : goal.returns
returns c = record { balance = balance_obligations; handlers = handler_obligations; both = all_obligations }

use Rattle.policy_reader.proofs.OneFault.{one_fault, one_policy, never_both}
use Rattle.policy_reader.proofs.laws.law_one_answer.Goals as goal

pub returns : goal.returns
returns c = record { one_policy = one_policy; one_fault = one_fault; never_both = never_both }

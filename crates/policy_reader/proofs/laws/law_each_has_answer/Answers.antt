-- The text has tokens, or the fault that was found.
use Rattle.policy_reader.proofs.EachAnswered.{each_answered}
use Rattle.policy_reader.proofs.laws.law_each_has_answer.Goals as goal

pub returns : goal.returns
returns c = each_answered c.args.text.now c.requires c.fault_of-fault.result c.fault_of-fault.ensures

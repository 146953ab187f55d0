-- The fault is the one that was read.
use Rattle.std.proofs.Common.{subst, sym}
use Rattle.policy_reader.specs.Answers.{IsFaultUnlessMemory}
use Rattle.policy_reader.specs.Faults.{HasFault}
use Rattle.policy_answers.proofs.reading.read.Goals as goal

pub returns-in-Err-Broken : goal.returns-in-Err-Broken
returns-in-Err-Broken c =
    let text = c.args.text.now in
    subst (HasFault text) (sym c.in-Err-Broken.fault-is) (subst (IsFaultUnlessMemory text) c.in-Err-Broken.field-0-is c.in-Err-Broken.ensures.fault)

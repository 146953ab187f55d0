use Rattle.policy_tree.specs.Meaning.{meaning_of}
use Rattle.serial_tests.proofs.Fitting.{handlers_meet}
use Rattle.serial_tests.proofs.agreeing.of_one.Goals as goal

pub of_plan-requires-clause-handlers : goal.of_plan-requires-clause-handlers
of_plan-requires-clause-handlers g c _ _ = handlers_meet (meaning_of c.args.policy.now) c.requires

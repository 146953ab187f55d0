use Rattle.model_tests.proofs.Happenings.{over_numbers_are_passed_over}
use Rattle.model_tests.proofs.events.over_numbers_are_passed_over.Goals as goal

pub returns : goal.returns
returns c = over_numbers_are_passed_over

use Rattle.model_tests.proofs.Happenings.{yield_goes_to_the_queue}
use Rattle.model_tests.proofs.events.yield_goes_to_the_queue.Goals as goal

pub returns : goal.returns
returns c = yield_goes_to_the_queue

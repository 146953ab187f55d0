use Rattle.model_tests.proofs.Happenings.{ties_go_to_the_lowest}
use Rattle.model_tests.proofs.events.ties_go_to_the_lowest.Goals as goal

pub returns : goal.returns
returns c = ties_go_to_the_lowest

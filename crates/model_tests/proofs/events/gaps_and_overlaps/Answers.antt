use Rattle.model_tests.proofs.Happenings.{gaps_and_overlaps}
use Rattle.model_tests.proofs.events.gaps_and_overlaps.Goals as goal

pub returns : goal.returns
returns c = gaps_and_overlaps

use Rattle.model_tests.proofs.BatchRows.{batch_misses}
use Rattle.model_tests.proofs.batches.batch_misses.Goals as goal

pub returns : goal.returns
returns c = batch_misses

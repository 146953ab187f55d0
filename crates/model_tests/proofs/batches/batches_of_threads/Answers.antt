use Rattle.model_tests.proofs.BatchRows.{batches_of_threads}
use Rattle.model_tests.proofs.batches.batches_of_threads.Goals as goal

pub returns : goal.returns
returns c = batches_of_threads

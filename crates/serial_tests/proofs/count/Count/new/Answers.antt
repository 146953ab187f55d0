use Rattle.std.proofs.Common.{refl}
use Rattle.parallel_play.proofs.Counting.{all_false}
use Rattle.serial_tests.proofs.count.Count.new.Goals as goal

pub returns : goal.returns
returns c = record { entries = refl; ended = λ id. all_false 1024 id }

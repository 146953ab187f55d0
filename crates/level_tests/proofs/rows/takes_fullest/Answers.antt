use Rattle.level_tests.proofs.Playing.{takes_fullest}
use Rattle.level_tests.proofs.rows.takes_fullest.Goals as goal

pub returns : goal.returns
returns c = takes_fullest

use Rattle.level_tests.proofs.Playing.{takes_near}
use Rattle.level_tests.proofs.rows.takes_near.Goals as goal

pub returns : goal.returns
returns c = takes_near

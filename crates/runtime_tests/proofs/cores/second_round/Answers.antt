use Rattle.std.proofs.Common.{sym, subst}
use Rattle.runtime_tests.specs.Stages.{IsSmall}
use Rattle.runtime_tests.proofs.Moments.{small_empty}
use Rattle.runtime_tests.proofs.cores.second_round.Goals as goal

pub seen-requires : goal.seen-requires
seen-requires c = subst IsSmall (sym c.last_unit-ran.ensures) small_empty

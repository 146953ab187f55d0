use Rattle.std.proofs.Common.{sym, subst}
use Rattle.runtime_tests.specs.Stages.{IsSmall}
use Rattle.runtime_tests.proofs.Moments.{small_blocked, small_both, small_two}
use Rattle.runtime_tests.proofs.cores.first_round.Goals as goal

pub seen-entered-requires : goal.seen-entered-requires
seen-entered-requires c = subst IsSmall (sym c.both_enter.ensures) small_both

pub seen-blocked-requires : goal.seen-blocked-requires
seen-blocked-requires c = subst IsSmall (sym c.first_unit-ran.ensures) small_blocked

pub seen-came-requires : goal.seen-came-requires
seen-came-requires c = subst IsSmall (sym c.two_moves.ensures.to) small_two

use Rattle.core_table.specs.Public.{IsOf, view_of}
use Rattle.parallel_play.proofs.Rounding.{IsBetween}
use Rattle.serial_tests.specs.Counts.{tally_of}
use Rattle.serial_tests.proofs.at_table.play_rounds.Given as goal

-- so many rounds are over
abbrev pub invariant-loop-begun : goal.invariant-loop-begun
invariant-loop-begun g l = record {
  of : IsOf l.table l.seat;
  between : IsBetween l.begun (tally_of l.count) (view_of l.seat);
}

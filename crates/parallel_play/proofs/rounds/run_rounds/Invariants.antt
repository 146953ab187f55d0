use Rattle.core_table.specs.Public.{IsOf, view_of}
use Rattle.parallel_play.specs.Runs.{AllPassed}
use Rattle.parallel_play.proofs.Rounding.{IsBetween}
use Rattle.parallel_play.proofs.rounds.run_rounds.Given as goal

-- so many rounds are over
abbrev pub invariant-loop-begun : goal.invariant-loop-begun
invariant-loop-begun g l = record {
  of : IsOf l.table l.seat;
  between : IsBetween l.begun l.tally (view_of l.seat);
  passed : AllPassed (g.G.Gate.passed l.gate) l.plan l.begun;
}

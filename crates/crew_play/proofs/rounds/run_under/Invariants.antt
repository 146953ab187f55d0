use Rattle.std.proofs.Common.{◌≡◌, length}
use Rattle.core_table.specs.Public.{IsOf, view_of}
use Rattle.parallel_play.specs.Runs.{AllPassed}
use Rattle.parallel_play.proofs.Rounding.{IsBetween}
use Rattle.crew_play.specs.Hands.{AllRoomy}
use Rattle.crew_play.specs.Room.{room_for}
use Rattle.crew_play.proofs.rounds.run_under.Given as goal

-- so many rounds are over, and the lists are as they were
abbrev pub invariant-loop-begun : goal.invariant-loop-begun
invariant-loop-begun g l = record {
  of : IsOf l.table l.seat;
  between : IsBetween l.begun l.tally (view_of l.seat);
  passed : AllPassed (g.G.Gate.passed l.gate) l.plan l.begun;
  roomy : AllRoomy (room_for l.plan.cores l.workers) l.lists.items;
  len : length l.lists.items ≡ l.workers;
}

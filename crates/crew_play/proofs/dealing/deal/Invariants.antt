use Rattle.std.proofs.Common.{◌≡◌, ◌+◌, length, vec_capacity}
use Rattle.core_table.specs.Public.{IsOf, view_of}
use Rattle.parallel_play.specs.Playing.{IdleFrom}
use Rattle.parallel_play.specs.Stages.{table_in}
use Rattle.crew_play.specs.Hands.{IsCrew, Nobody, dealt}
use Rattle.crew_play.proofs.dealing.deal.Given as goal

-- the seats of the cores below this one are out
abbrev pub invariant-loop-core : goal.invariant-loop-core
invariant-loop-core l = record {
  seat : IsOf (table_in l.stage) l.seat;
  view : view_of l.seat ≡ dealt l.first (length l.hands.items) (view_of l.fn.seat);
  idle : IdleFrom l.core (view_of l.seat);
  round : l.stage.round ≡ (view_of l.seat).round;
  crew : IsCrew (table_in l.stage) Nobody l.stage.round l.first l.hands.items;
  len : l.first + length l.hands.items ≡ l.core;
  capacity : vec_capacity l.hands ≡ vec_capacity l.fn.hands;
}

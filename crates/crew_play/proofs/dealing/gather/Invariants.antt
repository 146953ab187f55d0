use Rattle.std.proofs.Common.{◌≡◌, ◌+◌, ◌≤◌, length, vec_capacity, vec_len}
use Rattle.core_table.specs.Public.{IsOf, view_of}
use Rattle.parallel_play.specs.Playing.{Played}
use Rattle.parallel_play.specs.Stages.{table_in}
use Rattle.crew_play.specs.Hands.{AllOver, Anybody, IsCrew, dealt}
use Rattle.crew_play.proofs.dealing.gather.Given as goal

-- the cores behind those of the hands that are left are back, and counted
abbrev pub invariant-loop-hand : goal.invariant-loop-hand
invariant-loop-hand l = record {
  seat : IsOf (table_in l.stage) l.seat;
  crew : IsCrew (table_in l.stage) Anybody l.stage.round l.first l.hands.items;
  over : AllOver l.hands.items;
  cores : l.first + length l.hands.items ≤ (view_of l.before.value).plan.cores;
  played : Played (l.first + length l.hands.items) l.start.value l.tally (dealt l.first (length l.hands.items) (view_of l.before.value)) (view_of l.seat);
  capacity : vec_capacity l.hands ≡ vec_capacity l.fn.hands;
}

abbrev pub decreases-loop-hand : goal.decreases-loop-hand
decreases-loop-hand l = vec_len l.hands

use Rattle.std.proofs.Common.{◌≡◌, ◌≤◌, length, vec_capacity}
use Rattle.crew_play.specs.Hands.{AllRoomy}
use Rattle.crew_play.specs.Room.{room_for}
use Rattle.crew_play.proofs.hand_lists.make_lists.Given as goal

-- so many lists are made, and there is room for all
abbrev pub invariant-loop : goal.invariant-loop
invariant-loop l = record {
  len : length l.lists.items ≡ l.counter;
  room : l.workers ≤ vec_capacity l.lists;
  roomy : AllRoomy (room_for l.cores l.workers) l.lists.items;
}

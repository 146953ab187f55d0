use Rattle.std.proofs.Common.{◌≡◌}
use Rattle.queue_tests.specs.declared.turns.TheConstants.{ROOM}
use Rattle.queue_tests.proofs.turns.all_turns.Given as goal

-- the room stays
abbrev pub invariant-loop-turn : goal.invariant-loop-turn
invariant-loop-turn l = l.queue.room ≡ ROOM

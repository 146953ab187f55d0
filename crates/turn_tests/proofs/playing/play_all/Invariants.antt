use Rattle.turn_tests.specs.Memory.{IsKept, IsSameMemory}
use Rattle.turn_tests.proofs.playing.play_all.Given as goal

-- what is kept stands
abbrev pub invariant-loop-round : goal.invariant-loop-round
invariant-loop-round g l = record { kept : IsKept l.calls; same : IsSameMemory l.fn.calls l.calls }

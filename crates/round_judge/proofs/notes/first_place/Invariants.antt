use Rattle.std.proofs.Common.{◌≡◌, ◌++◌, drop, take, find}
use Rattle.round_model.specs.Moves.{without_first}
use Rattle.round_judge.specs.Past.{arrives_at}
use Rattle.round_judge.proofs.notes.first_place.Given as goal

-- the arrivals passed over come by other cores
abbrev pub invariant-loop-at : goal.invariant-loop-at
invariant-loop-at l = record {
  found : find (arrives_at l.core) (drop l.at l.arrivals) ≡ find (arrives_at l.core) l.arrivals;
  rest : without_first (arrives_at l.core) l.arrivals ≡ take l.at l.arrivals ++ without_first (arrives_at l.core) (drop l.at l.arrivals);
}

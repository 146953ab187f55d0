use Rattle.std.proofs.Common.{◌≡◌, ◌++◌, drop, replicate, length}
use Rattle.round_judge.proofs.Beginnings.{no_turn}
use Rattle.round_judge.proofs.rounds.clear_turns.Given as goal

-- the turns passed over are at their beginning
abbrev pub invariant-loop-at : goal.invariant-loop-at
invariant-loop-at l = record {
  len : length l.turns ≡ length l.initial.turns;
  front : l.turns ≡ replicate l.at no_turn ++ drop l.at l.initial.turns;
}

use Rattle.std.proofs.Common.{◌≡◌, take}
use Rattle.round_model.specs.Moves.{taken_from}
use Rattle.round_judge.proofs.stealing.taken.Given as goal

-- what the first numbers take was found, and the rest is left
abbrev pub invariant-loop-at : goal.invariant-loop-at
invariant-loop-at l = record {
  found : l.found ≡ (taken_from (take l.at l.threads) l.queue).found;
  left : l.left ≡ (taken_from (take l.at l.threads) l.queue).left;
}

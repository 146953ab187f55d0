use Rattle.std.proofs.Common.{◌≡◌, map, pos}
use Rattle.policy_eval.proofs.Filling.{filled}
use Rattle.policy_eval.proofs.env.assigned.Given as goal

abbrev pub invariant-loop-at : goal.invariant-loop-at
invariant-loop-at l = l.vals ≡ filled l.initial.vals 0 (map pos l.numbers) l.at

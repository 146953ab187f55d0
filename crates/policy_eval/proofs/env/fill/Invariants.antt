use Rattle.std.proofs.Common.{◌≡◌}
use Rattle.policy_eval.proofs.Filling.{filled}
use Rattle.policy_eval.proofs.env.fill.Given as goal

abbrev pub invariant-loop-at : goal.invariant-loop-at
invariant-loop-at l = l.vals ≡ filled l.initial.vals l.first l.attrs l.at

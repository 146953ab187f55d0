use Rattle.std.proofs.Common.{◌≡◌}
use Rattle.round_model.specs.Cores.{listed, opening_state}
use Rattle.round_judge.proofs.past.opening.Given as goal

abbrev pub invariant-loop-core : goal.invariant-loop-core
invariant-loop-core l = l.state ≡ listed l.core (opening_state l.plan)

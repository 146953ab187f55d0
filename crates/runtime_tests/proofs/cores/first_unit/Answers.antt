use Rattle.std.proofs.Common.{sym, ap, subst, ◌∙◌}
use Rattle.runtime_tests.specs.Stages.{IsReady, after_unit}
use Rattle.runtime_tests.proofs.Moments.{both_ready, first_unit}
use Rattle.runtime_tests.proofs.cores.first_unit.Goals as goal

pub unit-requires-clause-state : goal.unit-requires-clause-state
unit-requires-clause-state c = subst IsReady (sym c.requires.state) both_ready

pub returns : goal.returns
returns c = c.unit.ensures ∙ (ap (after_unit 1) c.requires.state ∙ first_unit)

use Rattle.std.proofs.Common.{sym, ap, subst, ◌∙◌}
use Rattle.runtime_tests.specs.Stages.{IsReady, after_unit}
use Rattle.runtime_tests.proofs.Moments.{two_ready, unit_of_two}
use Rattle.runtime_tests.proofs.cores.unit_of_two.Goals as goal

pub unit-requires-clause-state : goal.unit-requires-clause-state
unit-requires-clause-state c = subst IsReady (sym c.requires.state) two_ready

pub returns : goal.returns
returns c = c.unit.ensures ∙ (ap (after_unit 1) c.requires.state ∙ unit_of_two)

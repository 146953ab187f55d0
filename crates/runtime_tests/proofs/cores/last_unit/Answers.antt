use Rattle.std.proofs.Common.{sym, ap, subst, ◌∙◌}
use Rattle.runtime_tests.specs.Stages.{IsReady, after_unit}
use Rattle.runtime_tests.proofs.Moments.{woke_ready, last_unit}
use Rattle.runtime_tests.proofs.cores.last_unit.Goals as goal

pub unit-requires-clause-state : goal.unit-requires-clause-state
unit-requires-clause-state c = subst IsReady (sym c.requires.state) woke_ready

pub returns : goal.returns
returns c = c.unit.ensures ∙ (ap (after_unit 2) c.requires.state ∙ last_unit)

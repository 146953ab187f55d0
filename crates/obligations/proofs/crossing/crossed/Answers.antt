-- One case without rows leaves the other list as it is.
use Rattle.std.proofs.Common.{ap, sym, ◌∙◌}
use Rattle.obligations.specs.Cases.{crossed}
use Rattle.obligations.proofs.ChainSteps.{crossed_unit, crossed_with_unit}
use Rattle.obligations.proofs.crossing.crossed.Goals as goal

pub returns-then-is_unit : goal.returns-then-is_unit
returns-then-is_unit c =
    let unit = sym c.as_slice.ensures.value ∙ c.is_unit.ensures c.if-is_unit.true in
    sym (ap (crossed c.args.left.items) unit ∙ crossed_with_unit c.args.left.items)

pub returns-then-is_unit-2 : goal.returns-then-is_unit-2
returns-then-is_unit-2 c =
    let unit = sym c.as_slice-2.ensures.value ∙ c.is_unit-2.ensures c.if-is_unit-2.true in
    sym (ap (λ cases. crossed cases c.args.right.items) unit ∙ crossed_unit c.args.right.items)

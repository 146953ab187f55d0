use Rattle.std.proofs.Common.{sym, ◌∙◌, eqb-true}
use Rattle.obligations.proofs.ChainSteps.{barren_link}
use Rattle.obligations.proofs.building.is_barren.Goals as goal

pub returns-then-link : goal.returns-then-link
returns-then-link c none load left =
    barren_link load c.args.outcome c.args.link left c.if-link.true (sym c.count.ensures ∙ eqb-true c.count.result 0 none)

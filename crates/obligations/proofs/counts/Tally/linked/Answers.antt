use Rattle.std.proofs.Common.{◌*◌, ◌+◌, cond, ap, sym, ◌∙◌}
use Rattle.obligations.specs.Counts.{reported}
use Rattle.obligations.specs.Tallies.{worth}
use Rattle.obligations.proofs.Reported.{scaled_is, worth_added, worth_multiplied}
use Rattle.obligations.proofs.counts.Tally.linked.Goals as goal

pub returns-then-multiplies-clause-worth : goal.returns-then-multiplies-clause-worth
returns-then-multiplies-clause-worth c n m is =
    let self = c.args.self in
    worth_multiplied self.times self.plus _ n m (c.product-scaled.ensures ∙ scaled_is self.times c.args.count c.min.result m is c.min.ensures)
    ∙ ap (λ b. reported (worth self (cond b (n * m) (n + m)))) (sym c.if-multiplies.true)

pub returns-else-multiplies-clause-worth : goal.returns-else-multiplies-clause-worth
returns-else-multiplies-clause-worth c n m is =
    let self = c.args.self in
    worth_added self.times self.plus _ _ n m (c.product-scaled.ensures ∙ scaled_is self.times c.args.count c.min.result m is c.min.ensures) c.sum.ensures
    ∙ ap (λ b. reported (worth self (cond b (n * m) (n + m)))) (sym c.if-multiplies.false)

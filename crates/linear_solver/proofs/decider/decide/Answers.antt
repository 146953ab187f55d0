use Rattle.linear_solver.proofs.Whole.{idle_open}
use Rattle.linear_solver.proofs.decider.decide.Goals as goal

pub returns-then-budget-eq-NO_BUDGET-clause-open : goal.returns-then-budget-eq-NO_BUDGET-clause-open
returns-then-budget-eq-NO_BUDGET-clause-open c =
    idle_open c.args.system.now.bounds c.args.system.now.rows c.args.budget c.if-budget-eq-NO_BUDGET.true

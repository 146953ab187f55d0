use Rattle.std.proofs.Common.{sym, subst, arith}
use Rattle.turn_steps.specs.States.{IsTurnOf, TurnState, state_of}
use Rattle.turn_tests.proofs.Telling.{still_of, told_more}
use Rattle.turn_tests.proofs.orders.is_asked.Goals as goal

pub told-requires-clause-awaited : goal.told-requires-clause-awaited
told-requires-clause-awaited c = (c.asks-asked.ensures.awaits c.in-Some.told).0 c.in-Some.ensures

pub told-requires-clause-few : goal.told-requires-clause-few
told-requires-clause-few c = let many = c.loop-at.invariant.many in let low = c.loop-at-test.true in omega arith

pub loop-at-preserved : goal.loop-at-preserved
loop-at-preserved c =
    let i = c.loop-at.invariant in let t = state_of c.loop-at.turning in
    record {
      of_plan = subst (λ (u : TurnState). IsTurnOf c.args.plan.now u) (sym c.told.ensures.state) (still_of c.args.plan.now c.in-Some.told t i.of_plan);
      many = told_more c.in-Some.told t (state_of c.told.new.self) c.loop-at.at c.told.ensures.told i.many;
    }

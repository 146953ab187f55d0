use Rattle.std.proofs.Common.{◌≡◌, ◌<◌, ◌∙◌, length, sym, subst, arith}
use Rattle.round_model.specs.declared.plan.Plan.{Plan}
use Rattle.serial_steps.specs.SerialEnds.{RoundFits}
use Rattle.model_tests.specs.Plans.{two_cores}
use Rattle.core_table.specs.Public.{view_of}
use Rattle.core_table.proofs.FirstRound.{begins_at_0, may_begin_first}
use Rattle.runtime_tests.proofs.tables.first_round.Goals as goal

pub draw_round-requires-clause-may : goal.draw_round-requires-clause-may
draw_round-requires-clause-may g c =
    let v = view_of c.args.seat.now in
    let plan_is : v.plan ≡ two_cores = c.requires.seat.free.of.opening.plan ∙ c.requires.table.plan in
    may_begin_first v c.requires.seat.round
    (subst (λ (plan : Plan). 0 < plan.rounds) (sym plan_is) (omega arith))
    (subst (λ (plan : Plan). 0 < length plan.threads) (sym plan_is) (omega arith))
    (subst (λ (plan : Plan). RoundFits plan 0) (sym plan_is) (omega arith))

pub returns-clause-first : goal.returns-clause-first
returns-clause-first g c = begins_at_0 (view_of c.args.seat.now) (view_of c.draw_round.new.seat) c.draw_round.result c.requires.seat.round c.draw_round.ensures.begun

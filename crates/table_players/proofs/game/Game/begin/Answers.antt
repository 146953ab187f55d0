use Rattle.std.proofs.Common.{◌≡◌, ◌<◌, length, sym, subst, arith}
use Rattle.round_model.specs.declared.plan.Plan.{Plan}
use Rattle.serial_steps.specs.SerialEnds.{RoundFits}
use Rattle.core_table.specs.Public.{plan_of, view_of}
use Rattle.core_table.proofs.FirstRound.{may_begin_first}
use Rattle.table_players.proofs.Fitting.{crowd_round}
use Rattle.table_players.proofs.Dealing.{deals_first}
use Rattle.table_players.proofs.game.Game.begin.Goals as goal

pub draw_round-requires-clause-may : goal.draw_round-requires-clause-may
draw_round-requires-clause-may g c =
    let v = view_of c.args.seat.now in let crowd = c.requires.table.plan in
    let plan_is : v.plan ≡ plan_of c.args.self.now.table.now = c.requires.seat.free.of.opening.plan in
    may_begin_first v c.requires.seat.round
    (subst (λ (plan : Plan). 0 < plan.rounds) (sym plan_is) (let one = crowd.rounds in omega arith))
    (subst (λ (plan : Plan). 0 < length plan.threads) (sym plan_is) (let some_threads = crowd.some_threads in omega arith))
    (subst (λ (plan : Plan). RoundFits plan 0) (sym plan_is) (crowd_round (plan_of c.args.self.now.table.now) crowd))

pub returns : goal.returns
returns g c =
    deals_first c.args.self.now.table.now c.draw_round.new.seat (view_of c.args.seat.now) c.draw_round.result
    c.draw_round.ensures.seat c.requires.seat.free.free c.requires.seat.free.of.opening.plan c.draw_round.ensures.begun

use Rattle.std.proofs.Common.{◌∙◌, ◌<◌, refl, sym, subst}
use Rattle.core_table.specs.declared.seat.Seat.{Seat}
use Rattle.core_table.specs.declared.seat.Table.{Table}
use Rattle.core_table.specs.Public.{IsOf, plan_of, view_of}
use Rattle.core_calls.specs.Actors.{seat_of}
use Rattle.parallel_play.specs.Stages.{table_in}
use Rattle.turn_steps.specs.Reaches.{IsOver}
use Rattle.turn_steps.specs.States.{TurnState, state_of}
use Rattle.crew_play.specs.Hands.{turn_in}
use Rattle.core_calls.specs.Stepping.{IsPlaying, Steps}
use Rattle.crew_play.proofs.Handing.{same_passed}
use Rattle.crew_play.proofs.Passing.{step_of}
use Rattle.crew_play.proofs.playing.step_hand.Goals as goal

pub returns-clause-hand : goal.returns-clause-hand
returns-clause-hand g c =
    let s = c.crew_step-goes_on.ensures in let own = c.into_seat.result in let was = c.requires.hand in let table = table_in c.args.stage.now in let turn = state_of c.crew_step-goes_on.new.turning in
    let same = s.ready.1 ∙ c.new-calls.ensures.table in
    record {
      hand = record {
        seat = own;
        there = refl;
        of = subst (λ (x : Seat). IsOf table x) (sym c.into_seat.ensures) (subst (λ (t : Table). IsOf t (seat_of c.crew_step-goes_on.new.calls)) same s.ready.0.of);
        playing = subst (λ (x : Seat). IsPlaying turn (view_of x)) (sym c.into_seat.ensures) s.playing.0;
        low = subst (λ k. k < (plan_of table).cores) (sym s.playing.1.core) was.hand.low;
        passed = same_passed (g.G.Gate.passed c.args.gate.now) (turn_in c.args.hand.now) turn s.playing.1 s.passed;
      };
      core_is = s.playing.1.core;
      round_is = s.playing.1.round ∙ was.round_is;
    }

pub returns-clause-over : goal.returns-clause-over
returns-clause-over g c ends =
    let t = turn_in c.args.hand.now in let u = state_of c.crew_step-goes_on.new.turning in let s = c.crew_step-goes_on.ensures in let before = view_of (seat_of c.new-calls.result) in let now = view_of (seat_of c.crew_step-goes_on.new.calls) in
    let rests = subst (λ b. Steps b t u before now) ends s.steps in
    subst (λ (x : TurnState). IsOver x.reached) (sym rests.untold) rests.over

pub returns-clause-step : goal.returns-clause-step
returns-clause-step g c =
    let t = turn_in c.args.hand.now in let u = state_of c.crew_step-goes_on.new.turning in let s = c.crew_step-goes_on.ensures in let before = view_of (seat_of c.new-calls.result) in let now = view_of (seat_of c.crew_step-goes_on.new.calls) in
    let step = step_of c.crew_step-goes_on.result t u before now s.steps s.over s.more in record { rests = step.0; goes = step.1 }

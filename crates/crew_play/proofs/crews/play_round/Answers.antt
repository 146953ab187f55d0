use Rattle.std.proofs.Common.{sym, subst, arith}
use Rattle.core_table.specs.Public.{plan_of, view_of}
use Rattle.parallel_play.specs.Playing.{IdleFrom, Played}
use Rattle.parallel_play.specs.Stages.{table_in}
use Rattle.parallel_play.proofs.Seating.{begun_idle}
use Rattle.turn_steps.proofs.Sharing.{first_starts}
use Rattle.crew_play.proofs.crews.play_round.Goals as goal

pub play_crews-requires-clause-idle : goal.play_crews-requires-clause-idle
play_crews-requires-clause-idle g c _ _ =
    let d = c.draw_round.ensures.begun in let number = (c.requires.may d.history d.before).next.next in
    subst (λ n. IdleFrom n (view_of c.draw_round.new.seat)) (sym (first_starts (plan_of (table_in c.args.stage.now)).cores c.args.workers))
    (begun_idle c.args.stage.now.round c.draw_round.result (view_of c.args.seat) (view_of c.draw_round.new.seat) d c.requires.free (omega arith))

pub returns-clause-passed : goal.returns-clause-passed
returns-clause-passed g c core low high = c.play_crews.ensures.passed core (let start = first_starts (plan_of (table_in c.args.stage.now)).cores c.args.workers in omega arith) high

pub returns-clause-played : goal.returns-clause-played
returns-clause-played g c = record {
  at = c.draw_round.result;
  opened = view_of c.draw_round.new.seat;
  counted = c.count_round.new.self;
  begins = c.draw_round.ensures.begun;
  more = c.count_round.ensures.entries;
  same = c.count_round.ensures.ended;
  played = subst (λ n. Played n c.count_round.new.self c.play_crews.result.1 (view_of c.draw_round.new.seat) (view_of c.play_crews.result.0)) (first_starts (plan_of (table_in c.args.stage.now)).cores c.args.workers) c.play_crews.ensures.played;
}

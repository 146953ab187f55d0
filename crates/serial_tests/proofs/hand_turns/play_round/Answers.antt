use Rattle.std.proofs.Common.{arith}
use Rattle.core_table.specs.Public.{view_of}
use Rattle.parallel_play.proofs.Seating.{begun_idle}
use Rattle.serial_tests.proofs.hand_turns.play_round.Goals as goal

pub play_from-requires-clause-idle : goal.play_from-requires-clause-idle
play_from-requires-clause-idle g c =
    let d = c.draw_round.ensures.begun in let number = (c.requires.may d.history d.before).next.next in
    begun_idle c.args.round c.draw_round.result (view_of c.args.seat.now) (view_of c.draw_round.new.seat) d c.requires.free (omega arith)

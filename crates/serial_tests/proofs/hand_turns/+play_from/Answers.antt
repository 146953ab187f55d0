use Rattle.std.proofs.Common.{ap, arith}
use Rattle.round_model.specs.declared.plan.Plan.{Plan}
use Rattle.core_table.specs.Public.{view_of}
use Rattle.parallel_play.specs.Playing.{merged_in}
use Rattle.parallel_play.proofs.Seating.{played_more, played_none}
use Rattle.serial_tests.specs.Counts.{tally_of}
use Rattle.serial_tests.proofs.hand_turns.+play_from.Goals as goal

pub returns-then-core-cores-clause-played : goal.returns-then-core-cores-clause-played
returns-then-core-cores-clause-played g t c =
    let cores = ap (λ (p : Plan). p.cores) c.requires.seat.opening.plan in let count = c.cores.ensures in let high = c.if-core-cores.true in
    played_none c.args.core (tally_of c.args.count.now) (view_of c.args.seat.now) (omega arith) c.requires.idle (let small = c.args.count.now.small in omega arith)

pub take_back-requires-clause-back : goal.take_back-requires-clause-back
take_back-requires-clause-back g t c =
    let played = c.play_from.ensures.played in let turned = c.take_turn-own.ensures.turned in
    record {
      opening = record { merged = merged_in (view_of c.split_off-own.new.seat).role; turns = played.turns; role = played.role };
      free = record { core = c.args.core; of_core = turned.of_core; free = turned.free };
    }

pub returns-clause-played : goal.returns-clause-played
returns-clause-played g t c =
    let cores = ap (λ (p : Plan). p.cores) c.requires.seat.opening.plan in let count = c.cores.ensures in let low = c.if-core-cores.false in
    played_more c.args.core (tally_of c.args.count.now) (tally_of c.play_from.new.count) (tally_of c.take_back.new.count)
    (view_of c.args.seat.now) (view_of c.split_off-own.new.seat) (view_of c.play_from.new.seat) (view_of c.take_turn-own.result.0) (view_of c.take_back.new.seat) c.take_turn-own.result.1
    c.requires.idle c.split_off-own.ensures.left.1 c.play_from.ensures.played (view_of c.split_off-own.result) c.take_turn-own.ensures.turned
    c.take_back.ensures.joined c.take_back.ensures.counted (omega arith)

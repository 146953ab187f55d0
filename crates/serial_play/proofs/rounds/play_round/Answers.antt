use Rattle.std.proofs.Common.{arith}
use Rattle.policy_tree.specs.Meaning.{meaning_of}
use Rattle.round_model.specs.Legal.{LegalNext}
use Rattle.round_model.proofs.States.{OnOk-then}
use Rattle.serial_play.proofs.Playing.{room_behind, round_played}
use Rattle.serial_play.proofs.rounds.play_round.Goals as goal

pub take_ordered-requires-clause-room : goal.take_ordered-requires-clause-room
take_ordered-requires-clause-room c =
    room_behind (meaning_of c.args.policy.now) c.args.plan.now c.args.play.now c.begin.new.play c.args.number c.requires.fits c.requires.handlers c.requires.room c.in_ok-begin.ensures

pub end_turns-requires-clause-room : goal.end_turns-requires-clause-room
end_turns-requires-clause-room c =
    let room = room_behind (meaning_of c.args.policy.now) c.args.plan.now c.args.play.now c.begin.new.play c.args.number c.requires.fits c.requires.handlers c.requires.room c.in_ok-begin.ensures in
    omega (arith, c.in_ok-take_ordered.ensures.reserve)

pub returns : goal.returns
unfolding LegalNext
returns c =
    OnOk-then c.end_turns.result c.end_turns.ensures (λ ended.
    round_played (meaning_of c.args.policy.now) c.args.plan.now c.args.number c.args.play.now c.begin.new.play c.take_ordered.new.play c.end_turns.new.play c.requires.legal.due c.in_ok-begin.ensures c.in_ok-take_ordered.ensures ended)

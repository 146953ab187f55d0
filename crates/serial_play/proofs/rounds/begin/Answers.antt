use Rattle.std.proofs.Common.{refl}
use Rattle.policy_tree.specs.Meaning.{meaning_of}
use Rattle.serial_play.proofs.Playing.{begun_play}
use Rattle.serial_play.proofs.rounds.begin.Goals as goal

pub returns : goal.returns
returns c =
    let grown = c.in_ok-append.ensures in
    begun_play (meaning_of c.args.policy.now) c.args.plan.now c.args.number c.args.play.now _ c.requires.play grown.stands grown.belongs grown.history c.len-play.ensures refl c.forget.ensures

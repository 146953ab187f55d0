use Rattle.round_judge.proofs.Pasts.{turn_at}
use Rattle.round_judge.proofs.past.Past.turn.Goals as goal

pub returns : goal.returns
returns c p plan history stands there =
    turn_at p plan c.args.self.now history stands c.args.core c.get.result.now there c.get.ensures.item

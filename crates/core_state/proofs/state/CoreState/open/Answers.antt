use Rattle.policy_tree.specs.Meaning.{meaning_of, order_tree}
use Rattle.policy_eval.specs.Sites.{electing}
use Rattle.policy_eval.proofs.Evaluable.{evaluable_order}
use Rattle.core_state.proofs.state.CoreState.open.Goals as goal

pub with_room-requires : goal.with_room-requires
with_room-requires c =
    evaluable_order (meaning_of c.args.policy.now) c.requires.fits.policy electing (order_tree c.args.policy.now.elect) c.requires.fits.policy.elect

use Rattle.policy_tree.specs.Meaning.{meaning_of, order_tree}
use Rattle.policy_eval.specs.Sites.{stealing}
use Rattle.policy_eval.proofs.Evaluable.{evaluable_order}
use Rattle.batch_moves.proofs.next.best.Goals as goal

pub peek_for_steal-requires : goal.peek_for_steal-requires
peek_for_steal-requires c = evaluable_order (meaning_of c.args.policy.now) c.requires stealing (order_tree c.args.policy.now.steal) c.requires.steal

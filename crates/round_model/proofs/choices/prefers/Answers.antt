use Rattle.std.proofs.Common.{sym, subst}
use Rattle.policy_tree.specs.Meaning.{meaning_of, order_tree}
use Rattle.policy_eval.specs.Ranges.{AreIn, wide_ranges}
use Rattle.policy_eval.specs.Sites.{choosing}
use Rattle.policy_eval.proofs.Evaluable.{evaluable_order}
use Rattle.policy_eval.proofs.Wide.{pair_wide}
use Rattle.round_model.specs.Choices.{values_in}
use Rattle.round_model.proofs.choices.prefers.Goals as goal

pub better-requires-clause-order : goal.better-requires-clause-order
better-requires-clause-order c =
    evaluable_order (meaning_of c.args.policy.now) c.requires.policy choosing (order_tree c.args.policy.now.choose) c.requires.policy.choose

pub better-requires-clause-first : goal.better-requires-clause-first
better-requires-clause-first c =
    subst (AreIn wide_ranges) (sym (c.with_victim.ensures (values_in c.args.values.now c.args.own) c.requires.alone))
    (pair_wide (meaning_of c.args.policy.now) c.requires.policy _ _ (c.requires.values c.args.own _ c.requires.own) (c.requires.values c.args.first _ c.requires.first))

pub better-requires-clause-second : goal.better-requires-clause-second
better-requires-clause-second c =
    subst (AreIn wide_ranges) (sym (c.with_victim-2.ensures (values_in c.args.values.now c.args.own) c.requires.alone))
    (pair_wide (meaning_of c.args.policy.now) c.requires.policy _ _ (c.requires.values c.args.own _ c.requires.own) (c.requires.values c.args.second _ c.requires.second))

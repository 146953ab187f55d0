use Rattle.std.proofs.Common.{sym, subst}
use Rattle.policy_tree.specs.Meaning.{meaning_of}
use Rattle.policy_tree.specs.Trees.{cond_tree}
use Rattle.policy_eval.specs.Ranges.{AreIn, wide_ranges}
use Rattle.policy_eval.specs.Sites.{filtering}
use Rattle.policy_eval.proofs.Evaluable.{evaluable_cond}
use Rattle.policy_eval.proofs.Wide.{pair_wide}
use Rattle.round_model.specs.Choices.{values_in}
use Rattle.round_model.proofs.choices.is_candidate.Goals as goal

pub holds-requires-clause-evaluable : goal.holds-requires-clause-evaluable
holds-requires-clause-evaluable c =
    evaluable_cond (meaning_of c.args.policy.now) c.requires.policy filtering (cond_tree c.args.policy.now.filter) c.requires.policy.filter

pub holds-requires-clause-values : goal.holds-requires-clause-values
holds-requires-clause-values c =
    subst (AreIn wide_ranges) (sym (c.with_victim.ensures (values_in c.args.values.now c.args.own) c.requires.alone))
    (pair_wide (meaning_of c.args.policy.now) c.requires.policy _ _ (c.requires.values c.args.own _ c.requires.own) (c.requires.values c.args.core _ c.requires.core))

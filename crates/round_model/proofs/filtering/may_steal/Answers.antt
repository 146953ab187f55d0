use Rattle.std.proofs.Common.{sym, subst}
use Rattle.policy_tree.specs.Meaning.{meaning_of}
use Rattle.policy_tree.specs.Trees.{cond_tree}
use Rattle.policy_eval.specs.Ranges.{AreIn, wide_ranges}
use Rattle.policy_eval.specs.Sites.{filtering}
use Rattle.policy_eval.proofs.Evaluable.{evaluable_cond}
use Rattle.policy_eval.proofs.Wide.{LoadsFit-bound, pair_wide}
use Rattle.round_model.proofs.filtering.may_steal.Goals as goal

pub of_pair-requires-clause-own : goal.of_pair-requires-clause-own
of_pair-requires-clause-own c = let own = c.args.own.now in LoadsFit-bound (meaning_of c.args.policy.now) c.requires.policy own.nr own.load c.requires.own.loads

pub of_pair-requires-clause-victim : goal.of_pair-requires-clause-victim
of_pair-requires-clause-victim c = let victim = c.args.victim.now in LoadsFit-bound (meaning_of c.args.policy.now) c.requires.policy victim.nr victim.load c.requires.victim.loads

pub holds-requires-clause-evaluable : goal.holds-requires-clause-evaluable
holds-requires-clause-evaluable c = evaluable_cond (meaning_of c.args.policy.now) c.requires.policy filtering (cond_tree c.args.policy.now.filter) c.requires.policy.filter

pub holds-requires-clause-values : goal.holds-requires-clause-values
holds-requires-clause-values c =
    subst (AreIn wide_ranges) (sym c.of_pair.ensures) (pair_wide (meaning_of c.args.policy.now) c.requires.policy c.args.own.now c.args.victim.now c.requires.own c.requires.victim)

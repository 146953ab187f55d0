use Rattle.policy_tree.specs.Meaning.{meaning_of}
use Rattle.policy_tree.specs.Trees.{cond_tree}
use Rattle.policy_eval.specs.Sites.{filtering}
use Rattle.policy_eval.proofs.Evaluable.{evaluable_cond}
use Rattle.rest_bounds.proofs.following.raises_lowest.Goals as goal

pub keeps-requires-clause-sides : goal.keeps-requires-clause-sides
keeps-requires-clause-sides c = evaluable_cond (meaning_of c.args.policy.now) c.requires filtering (cond_tree c.args.policy.now.filter) c.requires.filter

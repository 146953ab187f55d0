use Rattle.policy_syntax.proofs.Rows.{or_tree}
use Rattle.policy_syntax.proofs.syntax.ConditionSyntax.any_of.Goals as goal

pub returns : goal.returns
returns c = or_tree c.args.at c.args.parts

use Rattle.policy_syntax.proofs.Rows.{and_tree}
use Rattle.policy_syntax.proofs.syntax.ConditionSyntax.all_of.Goals as goal

pub returns : goal.returns
returns c = and_tree c.args.at c.args.parts

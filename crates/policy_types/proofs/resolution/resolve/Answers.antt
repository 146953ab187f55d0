-- A syntax without fault is a resolved policy, and the first fault has the least token.
use Rattle.policy_syntax.specs.SyntaxTrees.{syntax_tree}
use Rattle.policy_types.proofs.SoundPolicies.{answer_resolved}
use Rattle.policy_types.proofs.WalkPolicies.{answer_least}
use Rattle.policy_types.proofs.resolution.resolve.Goals as goal

pub returns-clause-resolved : goal.returns-clause-resolved
returns-clause-resolved c =
    answer_resolved c.policy_of.result (syntax_tree c.args.syntax.now) c.policy_of.ensures.policy c.policy_of.ensures.sound

pub returns-clause-least : goal.returns-clause-least
returns-clause-least c = answer_least c.policy_of.result (syntax_tree c.args.syntax.now) c.policy_of.ensures.fault

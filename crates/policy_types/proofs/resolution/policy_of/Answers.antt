-- The policy by its declarations.
use Rattle.std.proofs.Common.{◌∙◌, ap}
use Rattle.policy_syntax.specs.SyntaxTrees.{syntax_tree}
use Rattle.policy_types.specs.Declarations.{nothing_declared, scope_after}
use Rattle.policy_types.proofs.SoundPolicies.{policy_as}
use Rattle.policy_types.proofs.resolution.policy_of.Goals as goal

pub returns-clause-policy : goal.returns-clause-policy
returns-clause-policy c =
    policy_as c.policy.result (syntax_tree c.args.syntax.now) c.in_ok-scope.scope c.in_ok-name.name c.in_ok-load.load
    (c.in_ok-scope.ensures.scope ∙ ap (scope_after nothing_declared) c.as_slice.ensures.items) c.in_ok-name.ensures c.in_ok-load.ensures.load
    c.policy.ensures.policy

-- Signs change no magnitude.
use Rattle.policy_types.proofs.Signs.{factor_small}
use Rattle.policy_types.proofs.scope.Scope.factor.Goals as goal

pub returns-clause-small : goal.returns-clause-small
returns-clause-small c = factor_small c.args.self.now c.args.site c.args.factor.now c.in_ok-expr.ensures.small

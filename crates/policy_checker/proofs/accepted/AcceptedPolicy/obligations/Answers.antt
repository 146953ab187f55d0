-- The type keeps that none has too many cases.
use Rattle.std.proofs.Common.{◌≡◌, None, subst}
use Rattle.policy_tree.specs.declared.typed.Policy.{Policy}
use Rattle.policy_tree.specs.Meaning.{meaning_of}
use Rattle.obligations.specs.Counts.{first_crowded}
use Rattle.obligations.specs.Names.{ob_names}
use Rattle.policy_checker.proofs.accepted.AcceptedPolicy.obligations.Goals as goal

pub returns-clause-few : goal.returns-clause-few
returns-clause-few c = subst (λ (policy : Policy). first_crowded (meaning_of policy) ob_names ≡ None) c.self.view_is c.self.invariant.2

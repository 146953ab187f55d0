-- What is kept shows that the policy is certified, and so it meets its obligations.
use Rattle.std.proofs.Common.{subst}
use Rattle.policy_tree.specs.declared.typed.Policy.{Policy}
use Rattle.policy_tree.specs.Meaning.{meaning_of}
use Rattle.policy_eval.specs.Obligations.{MeetsObligations}
use Rattle.policy_checker.specs.Certified.{IsCertified}
use Rattle.policy_checker.proofs.Kept.{certified_by}
use Rattle.policy_checker.proofs.True.{meets}
use Rattle.policy_checker.proofs.accepted.AcceptedPolicy.policy.Goals as goal

pub returns-clause-certified : goal.returns-clause-certified
returns-clause-certified c =
    subst (λ (policy : Policy). IsCertified (meaning_of policy)) c.self.view_is
    (certified_by (meaning_of c.self.inside.policy) c.self.inside.answers c.self.invariant.1)

pub returns-clause-meets : goal.returns-clause-meets
returns-clause-meets c =
    let p = meaning_of c.self.inside.policy in
    subst (λ (policy : Policy). MeetsObligations (meaning_of policy)) c.self.view_is
    (meets p c.self.invariant.0 (certified_by p c.self.inside.answers c.self.invariant.1))

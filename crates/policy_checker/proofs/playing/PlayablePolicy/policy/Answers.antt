-- What is kept shows that the handlers are certified, and so the policy meets its handler obligations.
use Rattle.std.proofs.Common.{subst}
use Rattle.policy_tree.specs.declared.typed.Policy.{Policy}
use Rattle.policy_tree.specs.Meaning.{meaning_of}
use Rattle.policy_eval.specs.Obligations.{MeetsHandlerObligations}
use Rattle.policy_checker.specs.Playable.{HasCertifiedHandlers}
use Rattle.policy_checker.proofs.KeptHandlers.{handlers_certified, handlers_met}
use Rattle.policy_checker.proofs.playing.PlayablePolicy.policy.Goals as goal

pub returns-clause-certified : goal.returns-clause-certified
returns-clause-certified c =
    subst (λ (policy : Policy). HasCertifiedHandlers (meaning_of policy)) c.self.view_is
    (handlers_certified (meaning_of c.self.inside.policy) c.self.inside.answers c.self.invariant.1)

pub returns-clause-handlers : goal.returns-clause-handlers
returns-clause-handlers c =
    let p = meaning_of c.self.inside.policy in
    subst (λ (policy : Policy). MeetsHandlerObligations (meaning_of policy)) c.self.view_is
    (handlers_met p c.self.invariant.0 (handlers_certified p c.self.inside.answers c.self.invariant.1))

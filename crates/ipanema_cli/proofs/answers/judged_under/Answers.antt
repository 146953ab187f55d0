-- An accepted policy meets its obligations, and is the one that is lent.
use Rattle.std.proofs.Common.{subst, sym}
use Rattle.policy_eval.proofs.Statements.{handler_obligations}
use Rattle.policy_eval.specs.Obligations.{MeetsObligations}
use Rattle.policy_tree.specs.declared.typed.Policy.{Policy}
use Rattle.policy_tree.specs.Meaning.{meaning_of}
use Rattle.ipanema_cli.proofs.answers.judged_under.Goals as goal

pub replay_texts-requires-clause-handlers : goal.replay_texts-requires-clause-handlers
replay_texts-requires-clause-handlers c =
    handler_obligations (meaning_of c.policy-policy.result.now)
    (subst (λ (policy : Policy). MeetsObligations (meaning_of policy)) (sym c.policy-policy.ensures.policy) c.policy-policy.ensures.meets)

pub migrate_texts-requires-clause-handlers : goal.migrate_texts-requires-clause-handlers
migrate_texts-requires-clause-handlers c =
    handler_obligations (meaning_of c.policy-policy.result.now)
    (subst (λ (policy : Policy). MeetsObligations (meaning_of policy)) (sym c.policy-policy.ensures.policy) c.policy-policy.ensures.meets)

pub why_texts-requires-clause-handlers : goal.why_texts-requires-clause-handlers
why_texts-requires-clause-handlers c =
    handler_obligations (meaning_of c.policy-policy.result.now)
    (subst (λ (policy : Policy). MeetsObligations (meaning_of policy)) (sym c.policy-policy.ensures.policy) c.policy-policy.ensures.meets)

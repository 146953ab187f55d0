-- An accepted policy meets its handler obligations.
use Rattle.std.proofs.Common.{subst, sym}
use Rattle.policy_tree.specs.Meaning.{meaning_of}
use Rattle.policy_eval.specs.Obligations.{MeetsHandlerObligations}
use Rattle.policy_eval.proofs.Statements.{handler_obligations}
use Rattle.wait_answers.proofs.answering.waits_text.Goals as goal

pub waiting_of-requires-clause-handlers : goal.waiting_of-requires-clause-handlers
waiting_of-requires-clause-handlers c =
    subst (λ policy. MeetsHandlerObligations (meaning_of policy)) (sym c.policy.ensures.policy) (handler_obligations (meaning_of c.in-Judged-Accepted.accepted) c.policy.ensures.meets)

-- An accepted policy meets its handler obligations.
use Rattle.std.proofs.Common.{subst, sym}
use Rattle.std.specs.Prelude.{IfOk}
use Rattle.policy_tree.specs.Meaning.{meaning_of}
use Rattle.policy_eval.specs.Obligations.{MeetsHandlerObligations}
use Rattle.policy_eval.proofs.Statements.{handler_obligations}
use Rattle.trace_play.specs.Plays.{IsPlayOf}
use Rattle.trace_play.proofs.playing.play_text.Goals as goal

pub play_under-requires-clause-handlers : goal.play_under-requires-clause-handlers
play_under-requires-clause-handlers c =
    subst (λ policy. MeetsHandlerObligations (meaning_of policy)) (sym c.policy.ensures.policy) (handler_obligations (meaning_of c.args.policy.now) c.policy.ensures.meets)

pub returns-clause-play : goal.returns-clause-play
returns-clause-play c = subst (λ policy. IfOk c.play_under.result (IsPlayOf (meaning_of policy) c.args.text.now)) c.policy.ensures.policy c.play_under.ensures.play

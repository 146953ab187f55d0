-- An accepted policy meets its handler obligations.
use Rattle.std.proofs.Common.{subst, sym}
use Rattle.std.specs.Prelude.{IfOk}
use Rattle.policy_tree.specs.Meaning.{meaning_of}
use Rattle.policy_eval.specs.Obligations.{MeetsHandlerObligations}
use Rattle.policy_eval.proofs.Statements.{handler_obligations}
use Rattle.trace_run.specs.Runs.{HavePassedFor, IsRunOf}
use Rattle.trace_run.proofs.running.run_text.Goals as goal

pub run_under-requires-clause-handlers : goal.run_under-requires-clause-handlers
run_under-requires-clause-handlers g c _ _ =
    subst (λ policy. MeetsHandlerObligations (meaning_of policy)) (sym c.policy.ensures.policy) (handler_obligations (meaning_of c.args.policy.now) c.policy.ensures.meets)

pub returns-clause-run : goal.returns-clause-run
returns-clause-run g c = subst (λ policy. IfOk c.run_under.result (IsRunOf (meaning_of policy) c.args.text.now)) c.policy.ensures.policy c.run_under.ensures.run

pub returns-clause-passed : goal.returns-clause-passed
returns-clause-passed g c = subst (λ policy. IfOk c.run_under.result (HavePassedFor (g.G.Gate.passed c.args.gate.now) (meaning_of policy) c.args.text.now)) c.policy.ensures.policy c.run_under.ensures.passed

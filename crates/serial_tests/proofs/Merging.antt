-- The logs that a play leaves are those of a history of few entries.
use Rattle.std.proofs.Common.{ℕ, arith}
use Rattle.policy_tree.specs.Meaning.{Meaning}
use Rattle.round_model.specs.declared.plan.Plan.{Plan}
use Rattle.round_model.specs.Limits.{IsWithinLimits}
use Rattle.core_state.specs.Views.{ClosedView}
use Rattle.core_worker.specs.Played.{PlaysWhole}
use Rattle.history_merge.specs.Merged.{AreLogsOfFew}
use Rattle.parallel_play.specs.Runs.{RunsWhole}

module _ (p : Meaning) (plan : Plan) (closed : ClosedView) (limits : IsWithinLimits plan) where
  pub played_few : PlaysWhole p plan closed → AreLogsOfFew closed
  played_few played =
      let few = played.ends.few in let most = limits.few_entries in (played.history, played.logs, omega arith)

  pub run_few : (Passed : ℕ → ℕ → Type 0) → RunsWhole p plan Passed closed → AreLogsOfFew closed
  run_few Passed run =
      let few = run.left.few in let most = limits.few_entries in (run.history, run.left.logs, omega arith)

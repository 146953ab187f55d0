-- No entry so far is a cause.
use Rattle.std.proofs.Common.{ℕ, ◌<◌, List}
use Rattle.policy_tree.specs.Meaning.{Meaning}
use Rattle.round_model.specs.declared.entry.Entry.{Entry}
use Rattle.round_model.specs.declared.plan.Plan.{Plan}
use Rattle.round_judge.specs.Past.{StandsFor}
use Rattle.sched_report.specs.Code.Causes.{Causes}
use Rattle.sched_report.proofs.causes.first_cause.Given as goal

abbrev pub invariant-loop-at : goal.invariant-loop-at
invariant-loop-at l = (p : Meaning) (plan : Plan) (history : List Entry) → StandsFor p plan l.past history → l.by < plan.cores → l.from < plan.cores
    → (k : ℕ) → k < l.at → ¬ Causes p plan history l.by l.from l.reads k

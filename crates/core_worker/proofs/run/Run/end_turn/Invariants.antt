use Rattle.std.proofs.Common.{replicate}
use Rattle.policy_tree.specs.Meaning.{meaning_of}
use Rattle.core_worker.specs.Runs.{Moves}
use Rattle.core_worker.proofs.run.Run.end_turn.Given as goal

-- so many steps are taken
abbrev pub invariant-loop-step : goal.invariant-loop-step
invariant-loop-step l = Moves (meaning_of l.policy) l.plan (replicate l._step l.core) l.fn.self l.self

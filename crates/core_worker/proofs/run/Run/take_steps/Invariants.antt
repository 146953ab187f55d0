use Rattle.std.proofs.Common.{take}
use Rattle.policy_tree.specs.Meaning.{meaning_of}
use Rattle.core_worker.specs.Runs.{Moves}
use Rattle.core_worker.proofs.run.Run.take_steps.Given as goal

-- the cores passed over took their steps
abbrev pub invariant-loop-core : goal.invariant-loop-core
invariant-loop-core l = Moves (meaning_of l.policy) l.plan (take l.core-index l.cores) l.fn.self l.self

-- A put fails for one of two reasons.
use Rattle.std.proofs.Common.{inl, inr, refl, rules}
use Rattle.sched_io.proofs.memory_sink.MemorySinkSink.put.Goals as goal
use Rattle.sched_io.proofs.memory_sink.MemorySinkSink.put.Goals.{then-fails-via-then-fails, then-fails-via-else-fails+then-left-count}

pub returns-then-fails-clause-chosen : goal.returns-then-fails-clause-chosen
returns-then-fails-clause-chosen c = (
  λ _. (
    search rules,
    elim c.then-fails.branch [
      | then-fails-via-then-fails w ↦ inl (search rules)
      | then-fails-via-else-fails+then-left-count w ↦ inr (search rules)
    ],
  ),
  λ _. refl,
)

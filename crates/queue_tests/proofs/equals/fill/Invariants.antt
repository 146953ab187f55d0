use Rattle.std.proofs.Common.{◌≡◌, ℕ, length}
use Rattle.sched_base.specs.declared.limits.TheConstants.{MAX_THREADS}
use Rattle.run_queue.specs.Tasks.{QueueView}
use Rattle.queue_tests.proofs.equals.fill.Given as goal

-- so many tasks came, and the room stays
pub record HasCome (queue : QueueView) (before : ℕ) : Type 0 where
  pub count : length queue.tasks ≡ before
  pub room : queue.room ≡ MAX_THREADS

abbrev pub invariant-loop-before : goal.invariant-loop-before
invariant-loop-before l = HasCome l.queue l.before

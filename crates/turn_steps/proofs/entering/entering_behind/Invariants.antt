use Rattle.std.proofs.Common.{◌≡◌, drop, filter}
use Rattle.std.specs.Prelude.{slice_get}
use Rattle.turn_steps.specs.States.{entering_by, enters_by}
use Rattle.turn_steps.proofs.entering.entering_behind.Given as goal

-- the thread that is sought is behind so many of the threads that are left
abbrev pub invariant-loop-thread : goal.invariant-loop-thread
invariant-loop-thread l = slice_get (filter (enters_by l.core l.round) (drop l.thread-index l.plan.threads)) l.left ≡ slice_get (entering_by l.plan l.core l.round) l.passed

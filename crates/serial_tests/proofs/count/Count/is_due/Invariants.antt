use Rattle.std.proofs.Common.{ℕ, ◌<◌, ◌≡◌, true, get_or}
use Rattle.round_model.specs.declared.plan.Planned.{Planned}
use Rattle.parallel_play.specs.Tallies.{flag_of}
use Rattle.serial_tests.specs.Counts.{tally_of}
use Rattle.serial_tests.proofs.count.Count.is_due.Given as goal

-- the threads passed over have ended
abbrev pub invariant-loop-thread : goal.invariant-loop-thread
invariant-loop-thread l = (j : ℕ) (d : Planned) → j < l.thread-index → flag_of (tally_of l.self) (get_or l.plan.threads j d).id ≡ true

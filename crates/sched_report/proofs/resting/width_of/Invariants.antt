-- How far the greatest of all loads is above the least of those so far.
use Rattle.std.proofs.Common.{◌≡◌, ◌-◌, take}
use Rattle.std.specs.Prelude.{fold, max}
use Rattle.sched_report.specs.Rests.{greatest}
use Rattle.sched_report.proofs.resting.width_of.Given as goal

abbrev pub invariant-loop-load : goal.invariant-loop-load
invariant-loop-load l = l.width ≡ fold (λ width load. max width (greatest l.loads - load)) 0 (take l.load-index l.loads)

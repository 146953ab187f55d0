-- The rows so far are those passed over.
use Rattle.std.proofs.Common.{◌≡◌, map, take}
use Rattle.sched_report.specs.CauseRows.{with_cause}
use Rattle.sched_report.proofs.explained.explained.Given as goal

abbrev pub invariant-loop-row : goal.invariant-loop-row
invariant-loop-row l = map with_cause l.fails ≡ take l.row-index l.causes

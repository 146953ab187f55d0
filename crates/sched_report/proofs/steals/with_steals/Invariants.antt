-- The rows so far have the stretches passed over, and their steals.
use Rattle.std.proofs.Common.{◌≡◌, List, All, map, take}
use Rattle.round_model.specs.declared.entry.Entry.{Entry}
use Rattle.sched_report.specs.StretchRows.{HasSteals, still_of}
use Rattle.sched_report.specs.Code.Steals.{MayBeCounted}
use Rattle.sched_report.proofs.steals.with_steals.Given as goal

abbrev pub invariant-loop-still : goal.invariant-loop-still
invariant-loop-still l = record {
  stills : map still_of l.rows ≡ take l.still-index l.stills;
  steals : (history : List Entry) → MayBeCounted history l.stills l.counts → All (HasSteals history) l.rows;
}

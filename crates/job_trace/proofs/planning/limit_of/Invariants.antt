-- No line so far gives a limit.
use Rattle.std.proofs.Common.{◌≡◌, drop}
use Rattle.job_trace.specs.Plans.{limit_of}
use Rattle.job_trace.proofs.planning.limit_of.Given as goal

abbrev pub invariant-loop-numbered : goal.invariant-loop-numbered
invariant-loop-numbered l = limit_of l.lines ≡ limit_of (drop l.numbered-index l.lines)

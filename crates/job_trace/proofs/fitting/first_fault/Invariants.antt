-- The first fault of all lines is that of those that are left.
use Rattle.std.proofs.Common.{◌≡◌, drop}
use Rattle.job_trace.specs.Plans.{first_fault}
use Rattle.job_trace.proofs.fitting.first_fault.Given as goal

abbrev pub invariant-loop-numbered : goal.invariant-loop-numbered
invariant-loop-numbered l = first_fault l.load l.attrs l.lines ≡ first_fault l.load l.attrs (drop l.numbered-index l.lines)

-- The lines that are left, put on the values so far, give what all of them give.
use Rattle.std.proofs.Common.{◌≡◌, drop}
use Rattle.job_trace.specs.Plans.{lines_put, starts}
use Rattle.job_trace.proofs.constants.core_consts.Given as goal

abbrev pub invariant-loop-numbered : goal.invariant-loop-numbered
invariant-loop-numbered l =
    lines_put l.attrs l.core (starts l.attrs) l.lines ≡ lines_put l.attrs l.core l.values (drop l.numbered-index l.lines)

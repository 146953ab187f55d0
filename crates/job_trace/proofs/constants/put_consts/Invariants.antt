-- The constants that are left, put on the values so far, give what all of them give.
use Rattle.std.proofs.Common.{◌≡◌, drop}
use Rattle.job_trace.specs.Plans.{consts_put}
use Rattle.job_trace.proofs.constants.put_consts.Given as goal

abbrev pub invariant-loop-given : goal.invariant-loop-given
invariant-loop-given l = consts_put l.attrs l.initial.values l.consts ≡ consts_put l.attrs l.values (drop l.given-index l.consts)

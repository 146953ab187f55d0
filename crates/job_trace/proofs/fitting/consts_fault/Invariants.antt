-- The first fault of all constants is that of those that are left.
use Rattle.std.proofs.Common.{◌≡◌, drop}
use Rattle.job_trace.specs.Plans.{consts_fault}
use Rattle.job_trace.proofs.fitting.consts_fault.Given as goal

abbrev pub invariant-loop-given : goal.invariant-loop-given
invariant-loop-given l = consts_fault l.attrs l.number l.consts ≡ consts_fault l.attrs l.number (drop l.given-index l.consts)

use Rattle.std.proofs.Common.{◌≡◌}
use Rattle.std.specs.Prelude.{vec_len}
use Rattle.job_trace.specs.Plans.{consts_of}
use Rattle.job_trace.proofs.constants.consts_of.Given as goal

abbrev pub invariant-loop-core : goal.invariant-loop-core
invariant-loop-core l = record {
  items : l.consts.items ≡ consts_of l.attrs l.lines l.core;
  counted : vec_len l.consts ≡ l.core;
}

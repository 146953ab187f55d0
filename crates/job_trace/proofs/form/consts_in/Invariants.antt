-- The constants so far, and those that are left.
use Rattle.std.proofs.Common.{◌≡◌, ◌+◌, ◌≤◌, length, vec_len}
use Rattle.job_trace.specs.Words.{words}
use Rattle.job_trace.specs.Code.Steps.{consts_in, extended}
use Rattle.job_trace.proofs.form.consts_in.Given as goal

abbrev pub invariant-loop-name : goal.invariant-loop-name
invariant-loop-name l = record {
  same : consts_in (words l.line) ≡ extended l.consts.items (consts_in (words l.rest));
  counted : vec_len l.consts + length l.rest ≤ length l.line;
}

abbrev pub decreases-loop-name : goal.decreases-loop-name
decreases-loop-name l = length l.rest

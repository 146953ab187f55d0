-- The numbers so far, and those that are left.
use Rattle.std.proofs.Common.{◌≡◌, ◌+◌, ◌≤◌, length, vec_len}
use Rattle.job_trace.specs.Words.{words}
use Rattle.job_trace.specs.Code.Steps.{extended, numbers_in}
use Rattle.job_trace.proofs.form.numbers_in.Given as goal

abbrev pub invariant-loop-word : goal.invariant-loop-word
invariant-loop-word l = record {
  same : numbers_in (words l.line) ≡ extended l.numbers.items (numbers_in (words l.rest));
  counted : vec_len l.numbers + length l.rest ≤ length l.line;
}

abbrev pub decreases-loop-word : goal.decreases-loop-word
decreases-loop-word l = length l.rest

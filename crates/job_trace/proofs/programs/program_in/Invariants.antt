-- The bursts so far, and the program that is left.
use Rattle.std.proofs.Common.{◌≡◌, ◌+◌, ◌≤◌, length, vec_len}
use Rattle.job_trace.specs.Words.{words}
use Rattle.job_trace.specs.Code.Steps.{extended, program_in}
use Rattle.job_trace.proofs.programs.program_in.Given as goal

abbrev pub invariant-loop-burst : goal.invariant-loop-burst
invariant-loop-burst l = record {
  same : program_in (words l.line) ≡ extended l.bursts.items (program_in (words l.rest));
  counted : vec_len l.bursts + length l.rest ≤ length l.line;
}

abbrev pub decreases-loop-burst : goal.decreases-loop-burst
decreases-loop-burst l = length l.rest

-- The threads so far are followed by those of the lines that are left.
use Rattle.std.proofs.Common.{◌≡◌, ◌≤◌, ◌++◌, drop, vec_len}
use Rattle.job_trace.specs.Plans.{threads_of}
use Rattle.job_trace.proofs.planning.threads_of.Given as goal

abbrev pub invariant-loop-numbered : goal.invariant-loop-numbered
invariant-loop-numbered l = record {
  kept : threads_of l.load l.lines ≡ l.threads.items ++ threads_of l.load (drop l.numbered-index l.lines);
  few : vec_len l.threads ≤ l.numbered-index;
}

-- What is left passes what the whole passes.
use Rattle.std.proofs.Common.{◌≡◌, ◌+◌, ◌≤◌, drop}
use Rattle.sched_base.specs.declared.limits.TheConstants.{MAX_BURSTS}
use Rattle.job_trace.specs.Rules.{burst_measures, first_passed}
use Rattle.job_trace.proofs.ranges.bursts_limit.Given as goal

abbrev pub invariant-loop-burst : goal.invariant-loop-burst
invariant-loop-burst l = record {
  same : first_passed (burst_measures 1 l.bursts) ≡ first_passed (burst_measures l.count (drop l.burst-index l.bursts));
  counted : l.count ≡ 1 + l.burst-index;
  few : l.count ≤ MAX_BURSTS + 1;
}

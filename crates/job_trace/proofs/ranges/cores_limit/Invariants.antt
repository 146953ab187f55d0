-- What is left passes what the whole passes.
use Rattle.std.proofs.Common.{◌≡◌, ◌+◌, ◌≤◌, drop}
use Rattle.sched_base.specs.declared.limits.TheConstants.{MAX_ORDER_CORES}
use Rattle.job_trace.specs.Rules.{first_passed, order_measures}
use Rattle.job_trace.proofs.ranges.cores_limit.Given as goal

abbrev pub invariant-loop-core : goal.invariant-loop-core
invariant-loop-core l = record {
  same : first_passed (order_measures l.last 1 l.cores) ≡ first_passed (order_measures l.last l.count (drop l.core-index l.cores));
  counted : l.count ≡ 1 + l.core-index;
  few : l.count ≤ MAX_ORDER_CORES + 1;
}

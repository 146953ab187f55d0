-- The orders so far are followed by those of the lines that are left.
use Rattle.std.proofs.Common.{◌≡◌, ◌≤◌, ◌++◌, drop, vec_len}
use Rattle.job_trace.specs.Plans.{orders_of}
use Rattle.job_trace.proofs.planning.orders_of.Given as goal

abbrev pub invariant-loop-numbered : goal.invariant-loop-numbered
invariant-loop-numbered l = record {
  kept : orders_of l.lines ≡ l.orders.items ++ orders_of (drop l.numbered-index l.lines);
  few : vec_len l.orders ≤ l.numbered-index;
}

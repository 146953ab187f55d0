use Rattle.std.proofs.Common.{◌≡◌, ◌*◌, ◌≤◌, take, sum_by}
use Rattle.std.specs.Int.{abs_diff}
use Rattle.sched_base.specs.declared.limits.TheConstants.{MAX_LOAD}
use Rattle.round_model.proofs.measures.distances.Given as goal

abbrev pub invariant-loop-other : goal.invariant-loop-other
invariant-loop-other l = record {
  value : l.sum ≡ sum_by (abs_diff l.load) (take l.other-index l.others);
  small : l.sum ≤ l.other-index * MAX_LOAD;
}

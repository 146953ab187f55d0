use Rattle.std.proofs.Common.{◌≡◌, ◌-◌, ◌*◌, ◌≤◌, drop, length}
use Rattle.sched_base.specs.declared.limits.TheConstants.{MAX_CORES, MAX_LOAD}
use Rattle.round_model.specs.Spread.{spread_of as spread_of_loads}
use Rattle.round_model.proofs.measures.spread_of.Given as goal

abbrev pub invariant-loop-at : goal.invariant-loop-at
invariant-loop-at l = record {
  value : l.spread ≡ spread_of_loads (drop l.at l.loads);
  small : l.spread ≤ (length l.loads - l.at) * (MAX_CORES * MAX_LOAD);
}

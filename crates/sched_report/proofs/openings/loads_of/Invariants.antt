-- The loads of the cores so far.
use Rattle.std.proofs.Common.{◌≡◌, length, map, take}
use Rattle.sched_base.specs.declared.limits.TheConstants.{MAX_CORES}
use Rattle.round_model.specs.Cores.{load_of}
use Rattle.sched_report.proofs.openings.loads_of.Given as goal

abbrev pub invariant-loop-core : goal.invariant-loop-core
invariant-loop-core l = record {
  full : length l.loads ≡ MAX_CORES;
  so_far : take l.core l.loads ≡ map load_of (take l.core l.state);
}

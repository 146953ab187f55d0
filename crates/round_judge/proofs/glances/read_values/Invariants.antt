use Rattle.std.proofs.Common.{◌≡◌, length}
use Rattle.sched_base.specs.declared.limits.TheConstants.{MAX_CORES}
use Rattle.round_judge.proofs.Sightings.{AreReadBelow}
use Rattle.round_judge.proofs.glances.read_values.Given as goal

-- the values of the cores passed over
abbrev pub invariant-loop-core : goal.invariant-loop-core
invariant-loop-core l = record {
  len : length l.values ≡ MAX_CORES;
  each : AreReadBelow l.plan l.past l.reads l.values l.core;
}

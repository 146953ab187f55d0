use Rattle.std.proofs.Common.{◌≡◌, ℕ, ◌<◌, length}
use Rattle.sched_base.specs.declared.limits.TheConstants.{MAX_CORES}
use Rattle.round_model.specs.Choices.{values_in}
use Rattle.core_moves.proofs.Seeing.{IsSeenAt}
use Rattle.core_moves.proofs.cores.Cores.see_all.Given as goal

-- the cores passed over were seen
abbrev pub invariant-loop-core : goal.invariant-loop-core
invariant-loop-core l = record {
  len : length l.values ≡ MAX_CORES;
  each : (k : ℕ) → k < l.core → IsSeenAt l.plan l.self.cores k (values_in l.values k);
}

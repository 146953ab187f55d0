use Rattle.std.proofs.Common.{◌≡◌, ◌<◌, ℕ, None, false, length}
use Rattle.sched_base.specs.declared.limits.TheConstants.{MAX_CORES}
use Rattle.round_judge.specs.Past.{is_flagged}
use Rattle.core_worker.specs.Turns.{look_of}
use Rattle.core_worker.proofs.turn.Turns.begin.Given as goal

-- of the cores passed over nothing is noted any more
abbrev pub invariant-loop-core : goal.invariant-loop-core
invariant-loop-core l = record {
  long_worked : length l.self.worked ≡ MAX_CORES;
  long_attempted : length l.self.attempted ≡ MAX_CORES;
  long_looks : length l.self.looks ≡ MAX_CORES;
  worked : (c : ℕ) → c < l.core → is_flagged l.self.worked c ≡ false;
  attempted : (c : ℕ) → c < l.core → is_flagged l.self.attempted c ≡ false;
  looks : (c : ℕ) → c < l.core → look_of l.self c ≡ None;
}

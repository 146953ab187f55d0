use Rattle.std.proofs.Common.{◌≡◌, ℕ, ◌<◌, get_or, length}
use Rattle.std.specs.Prelude.{pos}
use Rattle.sched_base.specs.declared.limits.TheConstants.{MAX_ATTRIBUTES}
use Rattle.job_trace.specs.Plans.{starts}
use Rattle.job_trace.proofs.constants.starts.Given as goal

abbrev pub invariant-loop-at : goal.invariant-loop-at
invariant-loop-at l = record {
  room : length l.starts ≡ MAX_ATTRIBUTES;
  written : (k : ℕ) → k < l.at → get_or l.starts k (pos 0) ≡ get_or (starts l.attrs) k (pos 0);
}

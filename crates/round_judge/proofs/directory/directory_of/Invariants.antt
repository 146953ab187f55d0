use Rattle.std.proofs.Common.{◌≡◌, ◌+◌, vec_len}
use Rattle.sched_base.specs.declared.limits.TheConstants.{MAX_THREADS}
use Rattle.round_model.proofs.Directories.{LeadsFrom}
use Rattle.round_judge.proofs.directory.directory_of.Given as goal

-- the directory leads to the threads from here on
abbrev pub invariant-loop-at : goal.invariant-loop-at
invariant-loop-at l = record {
  room : vec_len l.places ≡ MAX_THREADS + 1;
  leads : LeadsFrom l.plan.threads l.places.items l.at;
}

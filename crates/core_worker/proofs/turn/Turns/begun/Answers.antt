use Rattle.sched_base.specs.declared.limits.TheConstants.{MAX_CORES}
use Rattle.core_worker.proofs.Beginning.{none_kept, none_set}
use Rattle.core_worker.proofs.turn.Turns.begun.Goals as goal

pub returns : goal.returns
returns c = record { worked = λ core. none_set MAX_CORES core; attempted = λ core. none_set MAX_CORES core; looks = λ core. none_kept MAX_CORES core }

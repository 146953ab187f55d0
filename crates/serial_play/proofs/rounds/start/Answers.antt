use Rattle.std.proofs.Common.{◌∙◌, refl}
use Rattle.sched_base.specs.declared.limits.TheConstants.{MAX_CORES}
use Rattle.serial_play.proofs.Playing.{none_at, started, zeros_at}
use Rattle.serial_play.proofs.rounds.start.Goals as goal

pub returns-clause-play : goal.returns-clause-play
returns-clause-play c p fits =
    started p c.args.plan.now _ (c.in_ok-past.ensures.stands p) (c.in_ok-past.ensures.belongs p fits) (c.from_vec.ensures ∙ c.new-2.ensures.items) refl (λ core. zeros_at MAX_CORES core) (λ core. none_at MAX_CORES core)

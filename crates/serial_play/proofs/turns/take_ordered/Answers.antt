use Rattle.std.proofs.Common.{All, ◌<◌, sym, subst}
use Rattle.policy_tree.specs.Meaning.{meaning_of}
use Rattle.serial_steps.proofs.SerialWholes.{ordered_there}
use Rattle.serial_play.proofs.turns.take_ordered.Goals as goal

pub take_steps-requires-clause-cores : goal.take_steps-requires-clause-cores
take_steps-requires-clause-cores c =
    subst (All (λ core. core < c.args.plan.now.cores)) (sym c.ordered_cores.ensures) (ordered_there (meaning_of c.args.policy.now) c.args.plan.now c.args.number c.requires.fits)

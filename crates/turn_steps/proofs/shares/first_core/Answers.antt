use Rattle.turn_steps.proofs.Sharing.{first_is}
use Rattle.turn_steps.proofs.shares.first_core.Goals as goal

pub returns : goal.returns
returns c = first_is c.args.cores c.args.workers c.args.worker

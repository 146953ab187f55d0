use Rattle.crew_play.proofs.Shares.{room_is}
use Rattle.crew_play.proofs.hand_lists.most_cores.Goals as goal

pub returns : goal.returns
returns c = room_is c.args.cores c.args.workers

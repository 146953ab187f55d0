use Rattle.std.proofs.Common.{◌-◌, ◌*◌}
use Rattle.crew_play.proofs.crews.+fn-play_crews-others+play_crews.Given as goal

abbrev pub decreases-play_crews : goal.decreases-play_crews
decreases-play_crews g l = 3 * (l.workers - l.worker)

abbrev pub decreases-others : goal.decreases-others
decreases-others g l = 3 * (l.workers - l.worker) - 1

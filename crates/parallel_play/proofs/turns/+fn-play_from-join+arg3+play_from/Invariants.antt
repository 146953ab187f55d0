use Rattle.std.proofs.Common.{◌+◌, ◌-◌, ◌*◌}
use Rattle.core_table.specs.Public.{plan_of}
use Rattle.parallel_play.specs.Stages.{table_in}
use Rattle.parallel_play.proofs.turns.+fn-play_from-join+arg3+play_from.Given as goal

abbrev pub decreases-play_from : goal.decreases-play_from
decreases-play_from g l = 3 * ((plan_of (table_in l.stage.now)).cores - l.core)

abbrev pub decreases-join+arg3 : goal.decreases-join+arg3
decreases-join+arg3 g l = 3 * ((plan_of l.table.now).cores - l.next) + 2

use Rattle.std.proofs.Common.{◌-◌}
use Rattle.core_table.specs.Public.{plan_of}
use Rattle.table_players.specs.Games.{table_in}
use Rattle.serial_tests.proofs.hand_turns.+play_from.Given as goal

abbrev pub decreases-play_from : goal.decreases-play_from
decreases-play_from g l = (plan_of (table_in l.game.now)).cores - l.core

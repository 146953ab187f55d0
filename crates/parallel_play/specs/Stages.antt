-- What a contract sees of the round that is played.
use Rattle.core_table.specs.declared.seat.Table.{Table}
use Rattle.parallel_play.specs.declared.stage.Stage.{Stage}

abbrev pub table_in : Stage → Table
table_in s = s.table.now

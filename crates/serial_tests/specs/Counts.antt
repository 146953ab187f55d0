-- What is counted of a play at the table, as it is of a play in threads.
use Rattle.parallel_play.specs.declared.sums.Tally.{Tally}
use Rattle.serial_tests.specs.declared.count.Count.{Count}

abbrev pub tally_of : Count → Tally
tally_of c = record { entries = c.entries; ended = c.ended; small = c.small }

use Rattle.core_table.specs.Views.{leaving, seat_of_core}
use Rattle.core_table.proofs.cuts.split_off.Given as goal

-- the cut for this core
abbrev pub ghosts-cut : goal.ghosts-cut
ghosts-cut a = record { left = leaving a.core; right = seat_of_core a.core }

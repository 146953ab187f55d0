use Rattle.core_table.specs.Plays.{draws}
use Rattle.core_table.proofs.draws.draw.Given as goal

-- the play of this entry
abbrev pub ghosts-advance : goal.ghosts-advance
ghosts-advance a = record { then = λ st old n new. draws a.entry.now old n new }

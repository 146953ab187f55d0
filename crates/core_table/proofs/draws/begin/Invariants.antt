use Rattle.core_table.specs.Plays.{begins}
use Rattle.core_table.proofs.draws.begin.Given as goal

-- the play of the beginning of this round
abbrev pub ghosts-open_round : goal.ghosts-open_round
ghosts-open_round a = record { then = λ st old n new. begins a.number old n new }

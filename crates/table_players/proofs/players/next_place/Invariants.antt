use Rattle.table_players.specs.Games.{LetsNone}
use Rattle.table_players.proofs.players.next_place.Given as goal

-- none so far is to be let in
abbrev pub invariant-loop-at : goal.invariant-loop-at
invariant-loop-at l = LetsNone l.core l.plan.threads l.from l.at

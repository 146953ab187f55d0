use Rattle.std.proofs.Common.{refl}
use Rattle.table_players.proofs.players.Player.is_over.Goals as goal

pub returns-in-Over : goal.returns-in-Over
returns-in-Over c = (λ _. c.in-Over.is, λ _. refl)

pub returns-in_default : goal.returns-in_default
returns-in_default c = (λ yes. absurd (cc), λ is. absurd (c.in_default.not-Over is))

use Rattle.turn_laws.proofs.Turns.{turns_law}
use Rattle.turn_laws.proofs.laws.law_turns_at_rest.Goals as goal

pub returns : goal.returns
returns c = turns_law

use Rattle.obligations.proofs.Law.{systems_are_statements}
use Rattle.obligations.proofs.laws.law_systems.Goals as goal

pub returns : goal.returns
returns c = systems_are_statements

use Rattle.obligations.proofs.Law.{names_are_statements}
use Rattle.obligations.proofs.laws.law_names.Goals as goal

pub returns : goal.returns
returns c = names_are_statements

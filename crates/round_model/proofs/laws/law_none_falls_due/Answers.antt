use Rattle.round_model.proofs.Changed.{none_falls_due}
use Rattle.round_model.proofs.laws.law_none_falls_due.Goals as goal

pub returns : goal.returns
returns c = none_falls_due

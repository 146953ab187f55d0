use Rattle.round_model.proofs.Grows.{untouched}
use Rattle.round_model.proofs.laws.law_untouched.Goals as goal

pub returns : goal.returns
returns c = untouched

use Rattle.rest_laws.proofs.StepsByOne.{steps_by_one}
use Rattle.rest_laws.proofs.laws.law_steps_by_one.Goals as goal

pub returns : goal.returns
returns c = steps_by_one

use Rattle.policy_checker.proofs.True.{answers_are_true}
use Rattle.policy_checker.proofs.laws.law_answers.Goals as goal

pub returns : goal.returns
returns c = answers_are_true

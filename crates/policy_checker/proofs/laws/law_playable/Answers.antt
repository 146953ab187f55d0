use Rattle.policy_checker.proofs.KeptHandlers.{playable_law}
use Rattle.policy_checker.proofs.laws.law_playable.Goals as goal

pub returns : goal.returns
returns c = playable_law

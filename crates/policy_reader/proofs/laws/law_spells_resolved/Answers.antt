use Rattle.policy_reader.proofs.Resolved.{spells_resolved}
use Rattle.policy_reader.proofs.laws.law_spells_resolved.Goals as goal

pub returns : goal.returns
returns c = spells_resolved

use Rattle.history_reasons.proofs.KeptRules.{rules_law}
use Rattle.history_reasons.proofs.laws.law_rules.Goals as goal

pub returns : goal.returns
returns c = rules_law

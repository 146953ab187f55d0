use Rattle.std.proofs.Common.{◌-◌, length}
use Rattle.policy_parser.proofs.source.Source.+factor.Given as goal

abbrev pub decreases-factor : goal.decreases-factor
decreases-factor l = length l.self.now.lexemes.now - l.at

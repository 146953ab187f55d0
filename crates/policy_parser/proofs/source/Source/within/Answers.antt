use Rattle.policy_grammar.specs.Levels.{within_always}
use Rattle.policy_parser.proofs.Judged.{yes, isnt, answers-as}
use Rattle.policy_parser.proofs.LevelMoves.{within-always-goes, within-test-begins}
use Rattle.policy_parser.proofs.source.Source.within.Goals as goal

pub returns-then-has-clause-is : goal.returns-then-has-clause-is
returns-then-has-clause-is c = within_always (yes c.has.ensures.is c.if-has.true)

pub returns-then-has-clause-reads : goal.returns-then-has-clause-reads
returns-then-has-clause-reads c = λ below. within-always-goes _ _ c.args.at below (yes c.has.ensures.is c.if-has.true)

pub returns-clause-reads : goal.returns-clause-reads
returns-clause-reads c = λ below.
    answers-as _ c.comparison.result (within-test-begins _ _ c.args.at below (isnt c.has.ensures.is c.if-has.false)) (c.comparison.ensures.reads below)

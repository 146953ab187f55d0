use Rattle.std.proofs.Common.{◌∙◌}
use Rattle.std.proofs.lemmas.Result.{err_from_is_err_and}
use Rattle.policy_grammar.specs.Policies.{elect_none, elect_some}
use Rattle.policy_parser.proofs.Judged.{yes, isnt, passes}
use Rattle.policy_parser.proofs.PartMoves.{elect-over, elect-goes}
use Rattle.policy_parser.proofs.source.Source.elect.Goals as goal

pub returns-then-not-has-clause-is : goal.returns-then-not-has-clause-is
returns-then-not-has-clause-is c = elect_none

pub returns-then-not-has-clause-reads : goal.returns-then-not-has-clause-reads
returns-then-not-has-clause-reads c = λ below. elect-over _ _ c.args.at below (isnt c.has.ensures.is c.if-not-has.true)

pub returns-in_err-order-clause-reads : goal.returns-in_err-order-clause-reads
returns-in_err-order-clause-reads c = λ below.
    let p = err_from_is_err_and c.from_residual.result c.from_residual.ensures.1 in
    rw (p.1, p.2) (passes _ (elect-goes _ _ c.args.at below (yes c.has.ensures.is c.if-not-has.false)) (c.in_err-order.ensures.reads below))

pub returns-clause-is : goal.returns-clause-is
returns-clause-is c = elect_some (yes c.has.ensures.is c.if-not-has.false) c.in_ok-order.ensures.is

pub returns-clause-reads : goal.returns-clause-reads
returns-clause-reads c = λ below.
    elect-goes _ _ c.args.at below (yes c.has.ensures.is c.if-not-has.false) ∙ c.in_ok-order.ensures.reads below

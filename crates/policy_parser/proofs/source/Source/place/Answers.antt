use Rattle.std.proofs.Common.{◌∙◌}
use Rattle.std.proofs.lemmas.Result.{err_from_is_err_and}
use Rattle.policy_grammar.specs.Policies.{place_none, place_here, place_least}
use Rattle.policy_parser.proofs.Judged.{yes, isnt, passes}
use Rattle.policy_parser.proofs.PartMoves.{place-over, here-goes, least-goes, place-stuck}
use Rattle.policy_parser.proofs.source.Source.place.Goals as goal

pub returns-then-not-has-clause-is : goal.returns-then-not-has-clause-is
returns-then-not-has-clause-is c = place_none

pub returns-then-not-has-clause-reads : goal.returns-then-not-has-clause-reads
returns-then-not-has-clause-reads c = λ below. place-over _ _ c.args.at below (isnt c.has.ensures.is c.if-not-has.true)

pub returns-then-has-clause-is : goal.returns-then-has-clause-is
returns-then-has-clause-is c = place_here (yes c.has.ensures.is c.if-not-has.false) (yes c.has-2.ensures.is c.if-has.true)

pub returns-then-has-clause-reads : goal.returns-then-has-clause-reads
returns-then-has-clause-reads c = λ below. here-goes _ _ c.args.at below (yes c.has.ensures.is c.if-not-has.false) (yes c.has-2.ensures.is c.if-has.true)

pub returns-then-not-has-2-clause-reads : goal.returns-then-not-has-2-clause-reads
returns-then-not-has-2-clause-reads c = λ below.
    place-stuck _ _ c.args.at below (yes c.has.ensures.is c.if-not-has.false) (isnt c.has-2.ensures.is c.if-has.false) (isnt c.has-3.ensures.is c.if-not-has-2.true)

pub returns-in_err-value-clause-reads : goal.returns-in_err-value-clause-reads
returns-in_err-value-clause-reads c = λ below.
    let p = err_from_is_err_and c.from_residual.result c.from_residual.ensures.1 in
    rw (p.1, p.2)
    (passes _ (least-goes _ _ c.args.at below (yes c.has.ensures.is c.if-not-has.false) (yes c.has-3.ensures.is c.if-not-has-2.false))
    (c.in_err-value.ensures.reads 0 below))

pub returns-clause-is : goal.returns-clause-is
returns-clause-is c = place_least (yes c.has.ensures.is c.if-not-has.false) (yes c.has-3.ensures.is c.if-not-has-2.false) c.in_ok-value.ensures.is

pub returns-clause-reads : goal.returns-clause-reads
returns-clause-reads c = λ below.
    least-goes _ _ c.args.at below (yes c.has.ensures.is c.if-not-has.false) (yes c.has-3.ensures.is c.if-not-has-2.false)
    ∙ c.in_ok-value.ensures.reads 0 below

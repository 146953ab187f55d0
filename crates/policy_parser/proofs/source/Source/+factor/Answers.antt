use Rattle.std.proofs.Common.{◌∙◌, refl}
use Rattle.std.proofs.lemmas.Result.{err_from_is_err_and}
use Rattle.policy_grammar.specs.Expressions.{factor_plain}
use Rattle.policy_parser.proofs.Judged.{yes, isnt, passes}
use Rattle.policy_parser.proofs.Moves.{sign-goes, sign-many, sign-deep}
use Rattle.policy_parser.proofs.Parts.{signed_of}
use Rattle.policy_parser.proofs.source.Source.+factor.Goals as goal

pub returns-in_err-operand-clause-reads : goal.returns-in_err-operand-clause-reads
returns-in_err-operand-clause-reads t c = λ count below.
    let p = err_from_is_err_and c.from_residual.result c.from_residual.ensures.1 in
    rw (p.1, p.2) (c.in_err-operand.ensures.reads count c.args.base c.args.depth c.args.before below (isnt c.has.ensures.is c.if-not-has.true))

pub returns-then-not-has-clause-is : goal.returns-then-not-has-clause-is
returns-then-not-has-clause-is t c = factor_plain c.in_ok-operand.ensures.is

pub returns-then-before-self-clause-reads : goal.returns-then-before-self-clause-reads
returns-then-before-self-clause-reads t c = λ count below.
    sign-many _ _ c.args.at count c.args.base c.args.depth c.args.before below (yes c.has.ensures.is c.if-not-has.false) c.if-before-self.true

pub returns-then-depth-self-clause-reads : goal.returns-then-depth-self-clause-reads
returns-then-depth-self-clause-reads t c = λ count below.
    sign-deep _ _ c.args.at count c.args.base c.args.depth c.args.before below (yes c.has.ensures.is c.if-not-has.false) c.if-before-self.false c.if-depth-self.true

pub returns-in_err-inner-clause-reads : goal.returns-in_err-inner-clause-reads
returns-in_err-inner-clause-reads t c = λ count below.
    let p = err_from_is_err_and c.from_residual-in_err-inner.result c.from_residual-in_err-inner.ensures.1 in
    rw (p.1, p.2)
    (passes _
    (sign-goes _ _ c.args.at count c.args.base c.args.depth c.args.before below (yes c.has.ensures.is c.if-not-has.false) c.if-before-self.false c.if-depth-self.false)
    (c.in_err-inner.ensures.reads count below))

pub returns-clause-is : goal.returns-clause-is
returns-clause-is t c = signed_of c.in_ok-inner.inner (yes c.has.ensures.is c.if-not-has.false) c.in_ok-inner.ensures.is refl

pub returns-clause-reads : goal.returns-clause-reads
returns-clause-reads t c = λ count below.
    sign-goes _ _ c.args.at count c.args.base c.args.depth c.args.before below (yes c.has.ensures.is c.if-not-has.false) c.if-before-self.false c.if-depth-self.false
    ∙ c.in_ok-inner.ensures.reads count below

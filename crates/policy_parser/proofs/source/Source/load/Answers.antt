use Rattle.std.proofs.Common.{◌∷◌, ◌∙◌, refl}
use Rattle.std.proofs.lemmas.Result.{err_from_is_err_and}
use Rattle.policy_grammar.specs.Symbols.{load_rule}
use Rattle.policy_parser.proofs.Judged.{yes, isnt, passes}
use Rattle.policy_parser.proofs.PartMoves.{count-goes, weight-goes, load-none}
use Rattle.policy_parser.proofs.Parts.{count-load, weight-load}
use Rattle.policy_parser.proofs.source.Source.load.Goals as goal

pub returns-in_err-rule-clause-reads : goal.returns-in_err-rule-clause-reads
returns-in_err-rule-clause-reads c = λ below.
    let p = err_from_is_err_and c.from_residual.result c.from_residual.ensures.1 in
    rw (p.1, p.2) (c.in_err-rule.ensures.reads 0 (load_rule ∷ below))

pub returns-then-has-clause-is : goal.returns-then-has-clause-is
returns-then-has-clause-is c = count-load c.in_ok-rule.ensures.is c.in_ok-rule.ensures.next.0 (yes c.has.ensures.is c.if-has.true) refl

pub returns-then-has-clause-reads : goal.returns-then-has-clause-reads
returns-then-has-clause-reads c = λ below.
    c.in_ok-rule.ensures.reads 0 (load_rule ∷ below) ∙ count-goes _ _ c.in_ok-rule.rule below (yes c.has.ensures.is c.if-has.true)

pub returns-then-not-has-clause-reads : goal.returns-then-not-has-clause-reads
returns-then-not-has-clause-reads c = λ below.
    c.in_ok-rule.ensures.reads 0 (load_rule ∷ below)
    ∙ load-none _ _ c.in_ok-rule.rule below (isnt c.has.ensures.is c.if-has.false) (isnt c.has-2.ensures.is c.if-not-has.true)

pub returns-in_err-range-clause-reads : goal.returns-in_err-range-clause-reads
returns-in_err-range-clause-reads c = λ below.
    let p = err_from_is_err_and c.from_residual-in_err-range.result c.from_residual-in_err-range.ensures.1 in
    rw (p.1, p.2)
    (passes _ (c.in_ok-rule.ensures.reads 0 (load_rule ∷ below) ∙ weight-goes _ _ c.in_ok-rule.rule below (yes c.has-2.ensures.is c.if-not-has.false))
    (c.in_err-range.ensures.reads below))

pub returns-clause-is : goal.returns-clause-is
returns-clause-is c = weight-load c.in_ok-rule.ensures.is c.in_ok-rule.ensures.next.0 (yes c.has-2.ensures.is c.if-not-has.false) c.in_ok-range.ensures.is

pub returns-clause-reads : goal.returns-clause-reads
returns-clause-reads c = λ below.
    c.in_ok-rule.ensures.reads 0 (load_rule ∷ below) ∙ weight-goes _ _ c.in_ok-rule.rule below (yes c.has-2.ensures.is c.if-not-has.false)
    ∙ c.in_ok-range.ensures.reads below

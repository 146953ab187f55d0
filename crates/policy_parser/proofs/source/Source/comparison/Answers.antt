use Rattle.std.proofs.Common.{◌∷◌, ◌∙◌, ◌+◌}
use Rattle.std.proofs.lemmas.Result.{err_from_is_err_and}
use Rattle.policy_grammar.specs.Conditions.{unit_test}
use Rattle.policy_grammar.specs.Levels.{within_test}
use Rattle.policy_grammar.specs.Symbols.{compare}
use Rattle.policy_parser.proofs.Judged.{passes}
use Rattle.policy_parser.proofs.Moves.{compare-goes, compare-many, compare-none}
use Rattle.policy_parser.proofs.source.Source.comparison.Goals as goal

pub returns-in_err-left-clause-reads : goal.returns-in_err-left-clause-reads
returns-in_err-left-clause-reads c = λ below.
    let p = err_from_is_err_and c.from_residual.result c.from_residual.ensures.1 in
    rw (p.1, p.2) (c.in_err-left.ensures.reads c.args.count (compare c.args.most c.args.depth ∷ below))

pub returns-in-None-clause-reads : goal.returns-in-None-clause-reads
returns-in-None-clause-reads c = λ below.
    c.in_ok-left.ensures.reads c.args.count (compare c.args.most c.args.depth ∷ below)
    ∙ compare-none _ _ c.in_ok-left.sign_at c.args.count c.args.most c.args.depth below c.in-None.ensures.none

pub returns-then-count-most-clause-reads : goal.returns-then-count-most-clause-reads
returns-then-count-most-clause-reads c = λ below.
    c.in_ok-left.ensures.reads c.args.count (compare c.args.most c.args.depth ∷ below)
    ∙ compare-many _ _ c.in_ok-left.sign_at c.args.self.now.text.now c.args.count c.args.most c.args.depth below c.in-Some.compare c.in-Some.ensures.some c.if-count-most.true

pub returns-in_err-right-clause-reads : goal.returns-in_err-right-clause-reads
returns-in_err-right-clause-reads c = λ below.
    let p = err_from_is_err_and c.from_residual-in_err-right.result c.from_residual-in_err-right.ensures.1 in
    rw (p.1, p.2)
    (passes _
    (c.in_ok-left.ensures.reads c.args.count (compare c.args.most c.args.depth ∷ below)
    ∙ compare-goes _ _ c.in_ok-left.sign_at c.args.self.now.text.now c.args.count c.args.most c.args.depth below c.in-Some.compare c.in-Some.ensures.some c.if-count-most.false)
    (c.in_err-right.ensures.reads (c.args.count + 1) below))

pub returns-clause-is : goal.returns-clause-is
returns-clause-is c = unit_test c.in-Some.compare c.in_ok-left.ensures.is c.in-Some.ensures.some c.in_ok-right.ensures.is

pub returns-clause-test : goal.returns-clause-test
returns-clause-test c = within_test c.in-Some.compare c.in_ok-left.ensures.is c.in-Some.ensures.some c.in_ok-right.ensures.is

pub returns-clause-reads : goal.returns-clause-reads
returns-clause-reads c = λ below.
    c.in_ok-left.ensures.reads c.args.count (compare c.args.most c.args.depth ∷ below)
    ∙ compare-goes _ _ c.in_ok-left.sign_at c.args.self.now.text.now c.args.count c.args.most c.args.depth below c.in-Some.compare c.in-Some.ensures.some c.if-count-most.false
    ∙ c.in_ok-right.ensures.reads (c.args.count + 1) below

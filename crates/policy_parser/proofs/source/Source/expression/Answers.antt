use Rattle.std.proofs.Common.{◌∙◌, sym, subst, arith}
use Rattle.std.proofs.lemmas.Result.{err_from_is_err_and}
use Rattle.policy_grammar.specs.Expressions.{IsTerm, expr_of}
use Rattle.policy_parser.proofs.Judged.{passes}
use Rattle.policy_parser.proofs.source.Source.expression.Goals as goal

pub returns-in_err-first-clause-reads : goal.returns-in_err-first-clause-reads
returns-in_err-first-clause-reads c = λ count below.
    let p = err_from_is_err_and c.from_residual.result c.from_residual.ensures.1 in
    rw (p.1, p.2) (c.in_err-first.ensures.reads count below)

pub returns-in_err-first-2-clause-reads : goal.returns-in_err-first-2-clause-reads
returns-in_err-first-2-clause-reads c = λ count below.
    let p = err_from_is_err_and c.from_residual-in_err-first-2.result c.from_residual-in_err-first-2.ensures.1 in
    rw (p.1, p.2) (passes _ (c.in_ok-first.ensures.reads count below) (rw c.in_err-first-2.ensures.err at (c.added.ensures.reads count below)))

pub returns-clause-later : goal.returns-clause-later
returns-clause-later c =
    let later = rw c.in_ok-first-2.ensures.ok.1 at c.added.ensures.later in
    (omega (arith, later.0, c.in_ok-first.ensures.later), later.1)

pub returns-clause-is : goal.returns-clause-is
returns-clause-is c =
    expr_of
    (subst (λ t. IsTerm c.args.self.now.text.now c.args.self.now.lexemes.now c.args.at t c.in_ok-first.next) (sym c.in_ok-first-2.ensures.ok.0)
    c.in_ok-first.ensures.is)
    (rw c.in_ok-first-2.ensures.ok.1 at c.added.ensures.is)

pub returns-clause-over : goal.returns-clause-over
returns-clause-over c = rw c.in_ok-first-2.ensures.ok.1 at c.added.ensures.over

pub returns-clause-reads : goal.returns-clause-reads
returns-clause-reads c = λ count below.
    c.in_ok-first.ensures.reads count below ∙ (rw c.in_ok-first-2.ensures.ok.1 at (c.added.ensures.reads count below))

use Rattle.std.proofs.Common.{◌∷◌, ◌∙◌, subst}
use Rattle.std.proofs.lemmas.Result.{err_from_is_err_and}
use Rattle.policy_grammar.specs.declared.terminal.Terminal.TheVariants.{Range}
use Rattle.policy_grammar.specs.Expressions.{IsInt, range_of}
use Rattle.policy_grammar.specs.Symbols.{the, int}
use Rattle.policy_parser.proofs.Judged.{passes}
use Rattle.policy_parser.proofs.source.Source.range.Goals as goal

pub returns-in_err-low-clause-reads : goal.returns-in_err-low-clause-reads
returns-in_err-low-clause-reads c = λ below.
    let p = err_from_is_err_and c.from_residual.result c.from_residual.ensures.1 in
    rw (p.1, p.2) (c.in_err-low.ensures.reads (the Range ∷ int ∷ below))

pub returns-in_err-high_at-clause-reads : goal.returns-in_err-high_at-clause-reads
returns-in_err-high_at-clause-reads c = λ below.
    let p = err_from_is_err_and c.from_residual-in_err-high_at.result c.from_residual-in_err-high_at.ensures.1 in
    rw (p.1, p.2) (passes _ (c.in_ok-low.ensures.reads (the Range ∷ int ∷ below)) (c.in_err-high_at.ensures.reads 0 (int ∷ below)))

pub returns-in_err-high-clause-reads : goal.returns-in_err-high-clause-reads
returns-in_err-high-clause-reads c = λ below.
    let p = err_from_is_err_and c.from_residual-in_err-high.result c.from_residual-in_err-high.ensures.1 in
    rw (p.1, p.2)
    (passes _ (c.in_ok-low.ensures.reads (the Range ∷ int ∷ below) ∙ c.in_ok-high_at.ensures.reads 0 (int ∷ below)) (c.in_err-high.ensures.reads below))

pub returns-clause-is : goal.returns-clause-is
returns-clause-is c =
    range_of c.in_ok-low.ensures.is c.in_ok-high_at.ensures.is
    (subst (λ n. IsInt c.args.self.now.lexemes.now n c.in_ok-high.high c.in_ok-high.next) c.in_ok-high_at.ensures.next.0 c.in_ok-high.ensures.is)

pub returns-clause-reads : goal.returns-clause-reads
returns-clause-reads c = λ below.
    c.in_ok-low.ensures.reads (the Range ∷ int ∷ below) ∙ c.in_ok-high_at.ensures.reads 0 (int ∷ below) ∙ c.in_ok-high.ensures.reads below

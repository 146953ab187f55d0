use Rattle.std.proofs.Common.{◌∷◌}
use Rattle.std.proofs.lemmas.Result.{err_from_is_err_and}
use Rattle.policy_grammar.specs.declared.terminal.Terminal.TheVariants.{Number}
use Rattle.policy_grammar.specs.Symbols.{the}
use Rattle.policy_parser.proofs.Judged.{passes}
use Rattle.policy_parser.proofs.source.Source.limit.Goals as goal

pub returns-in_err-number_at-clause-reads : goal.returns-in_err-number_at-clause-reads
returns-in_err-number_at-clause-reads c = λ count below.
    let p = err_from_is_err_and c.from_residual.result c.from_residual.ensures.1 in
    rw (p.1, p.2) (c.in_err-number_at.ensures.reads count (the Number ∷ below))

pub returns-in_err-next-clause-reads : goal.returns-in_err-next-clause-reads
returns-in_err-next-clause-reads c = λ count below.
    let p = err_from_is_err_and c.from_residual-in_err-next.result c.from_residual-in_err-next.ensures.1 in
    rw (p.1, p.2) (passes _ (c.in_ok-number_at.ensures.reads count (the Number ∷ below)) (c.in_err-next.ensures.reads 0 below))

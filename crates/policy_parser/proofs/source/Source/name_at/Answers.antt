use Rattle.std.proofs.lemmas.Result.{err_from_is_err_and}
use Rattle.policy_parser.proofs.source.Source.name_at.Goals as goal

pub returns-in_err-next-clause-reads : goal.returns-in_err-next-clause-reads
returns-in_err-next-clause-reads c = λ count below.
    let p = err_from_is_err_and c.from_residual.result c.from_residual.ensures.1 in
    rw (p.1, p.2) (c.in_err-next.ensures.reads count below)

pub returns-clause-reads : goal.returns-clause-reads
returns-clause-reads c = λ count below.
    c.in_ok-next.ensures.reads count below

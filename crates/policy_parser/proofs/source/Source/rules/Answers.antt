use Rattle.std.proofs.Common.{◌∷◌, ◌∙◌}
use Rattle.std.proofs.lemmas.Result.{err_from_is_err_and}
use Rattle.policy_grammar.specs.Symbols.{elect}
use Rattle.policy_parser.proofs.Judged.{passes}
use Rattle.policy_parser.proofs.source.Source.rules.Goals as goal

pub returns-in_err-place-clause-reads : goal.returns-in_err-place-clause-reads
returns-in_err-place-clause-reads c = λ below.
    let p = err_from_is_err_and c.from_residual.result c.from_residual.ensures.1 in
    rw (p.1, p.2) (c.in_err-place.ensures.reads (elect ∷ below))

pub returns-in_err-elect-clause-reads : goal.returns-in_err-elect-clause-reads
returns-in_err-elect-clause-reads c = λ below.
    let p = err_from_is_err_and c.from_residual-in_err-elect.result c.from_residual-in_err-elect.ensures.1 in
    rw (p.1, p.2) (passes _ (c.in_ok-place.ensures.reads (elect ∷ below)) (c.in_err-elect.ensures.reads below))

pub returns-clause-reads : goal.returns-clause-reads
returns-clause-reads c = λ below.
    c.in_ok-place.ensures.reads (elect ∷ below) ∙ c.in_ok-elect.ensures.reads below

pub returns-clause-is : goal.returns-clause-is
returns-clause-is c =
    record { mid = _; places = c.in_ok-place.ensures.is; elects = c.in_ok-elect.ensures.is }

use Rattle.std.proofs.Common.{◌∷◌, ◌∙◌}
use Rattle.std.proofs.lemmas.Result.{err_from_is_err_and}
use Rattle.policy_grammar.specs.Symbols.{attrs, place, elect}
use Rattle.policy_parser.proofs.Judged.{passes}
use Rattle.policy_parser.proofs.source.Source.front.Goals as goal

pub returns-in_err-name-clause-reads : goal.returns-in_err-name-clause-reads
returns-in_err-name-clause-reads c = λ below.
    let p = err_from_is_err_and c.from_residual.result c.from_residual.ensures.1 in
    rw (p.1, p.2) (c.in_err-name.ensures.reads (attrs 0 0 ∷ place ∷ elect ∷ below))

pub returns-in_err-attrs-clause-reads : goal.returns-in_err-attrs-clause-reads
returns-in_err-attrs-clause-reads c = λ below.
    let p = err_from_is_err_and c.from_residual-in_err-attrs.result c.from_residual-in_err-attrs.ensures.1 in
    rw (p.1, p.2) (passes _ (c.in_ok-name.ensures.reads (attrs 0 0 ∷ place ∷ elect ∷ below)) (c.in_err-attrs.ensures.reads (place ∷ elect ∷ below)))

pub returns-in_err-place-clause-reads : goal.returns-in_err-place-clause-reads
returns-in_err-place-clause-reads c = λ below.
    let p = err_from_is_err_and c.from_residual-in_err-place.result c.from_residual-in_err-place.ensures.1 in
    rw (p.1, p.2) (passes _ (c.in_ok-name.ensures.reads (attrs 0 0 ∷ place ∷ elect ∷ below) ∙ c.in_ok-attrs.ensures.reads (place ∷ elect ∷ below)) (c.in_err-place.ensures.reads below))

pub returns-clause-reads : goal.returns-clause-reads
returns-clause-reads c = λ below.
    c.in_ok-name.ensures.reads (attrs 0 0 ∷ place ∷ elect ∷ below) ∙ c.in_ok-attrs.ensures.reads (place ∷ elect ∷ below) ∙ c.in_ok-place.ensures.reads below

pub returns-clause-is : goal.returns-clause-is
returns-clause-is c =
    record {
      attrs_at = _;
      rules_at = _;
      header = c.in_ok-name.ensures.is;
      are = c.in_ok-attrs.ensures.is;
      rules = c.in_ok-place.ensures.is;
    }

use Rattle.std.proofs.Common.{◌∷◌, ◌∙◌}
use Rattle.std.proofs.lemmas.Result.{err_from_is_err_and}
use Rattle.policy_grammar.specs.declared.terminal.Terminal.TheVariants.{Name, Load}
use Rattle.policy_grammar.specs.Symbols.{the, load_rule}
use Rattle.policy_parser.proofs.Judged.{passes}
use Rattle.policy_parser.proofs.Whole.{header-parts}
use Rattle.policy_parser.proofs.source.Source.header.Goals as goal

pub returns-in_err-name_at-clause-reads : goal.returns-in_err-name_at-clause-reads
returns-in_err-name_at-clause-reads c = λ below.
    let p = err_from_is_err_and c.from_residual.result c.from_residual.ensures.1 in
    rw (p.1, p.2) (c.in_err-name_at.ensures.reads 0 (the Name ∷ the Load ∷ load_rule ∷ below))

pub returns-in_err-name-clause-reads : goal.returns-in_err-name-clause-reads
returns-in_err-name-clause-reads c = λ below.
    let p = err_from_is_err_and c.from_residual-in_err-name.result c.from_residual-in_err-name.ensures.1 in
    rw (p.1, p.2) (passes _ (c.in_ok-name_at.ensures.reads 0 (the Name ∷ the Load ∷ load_rule ∷ below)) (c.in_err-name.ensures.reads 0 (the Load ∷ load_rule ∷ below)))

pub returns-in_err-load-clause-reads : goal.returns-in_err-load-clause-reads
returns-in_err-load-clause-reads c = λ below.
    let p = err_from_is_err_and c.from_residual-in_err-load.result c.from_residual-in_err-load.ensures.1 in
    rw (p.1, p.2) (passes _ (c.in_ok-name_at.ensures.reads 0 (the Name ∷ the Load ∷ load_rule ∷ below) ∙ c.in_ok-name.ensures.reads 0 (the Load ∷ load_rule ∷ below)) (c.in_err-load.ensures.reads below))

pub returns-clause-reads : goal.returns-clause-reads
returns-clause-reads c = λ below.
    c.in_ok-name_at.ensures.reads 0 (the Name ∷ the Load ∷ load_rule ∷ below) ∙ c.in_ok-name.ensures.reads 0 (the Load ∷ load_rule ∷ below) ∙ c.in_ok-load.ensures.reads below

pub returns-clause-is : goal.returns-clause-is
returns-clause-is c =
    header-parts c.in_ok-name_at.ensures.is c.in_ok-name_at.ensures.next.0 c.in_ok-name.ensures.is c.in_ok-name.ensures.word c.in_ok-name.ensures.next.0 c.in_ok-load.ensures.is

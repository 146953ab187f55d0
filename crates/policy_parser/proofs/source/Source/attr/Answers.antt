use Rattle.std.proofs.Common.{◌∷◌, ◌∙◌}
use Rattle.std.proofs.lemmas.Result.{err_from_is_err_and}
use Rattle.policy_grammar.specs.declared.terminal.Terminal.TheVariants.{In, Range, Start}
use Rattle.policy_grammar.specs.Symbols.{the, int}
use Rattle.policy_parser.proofs.Judged.{passes}
use Rattle.policy_parser.proofs.Parts.{attr-parts}
use Rattle.policy_parser.proofs.source.Source.attr.Goals as goal

pub returns-in_err-name-clause-reads : goal.returns-in_err-name-clause-reads
returns-in_err-name-clause-reads c = λ below.
    let p = err_from_is_err_and c.from_residual.result c.from_residual.ensures.1 in
    rw (p.1, p.2) (c.in_err-name.ensures.reads 0 (the In ∷ int ∷ the Range ∷ int ∷ the Start ∷ int ∷ below))

pub returns-in_err-range_at-clause-reads : goal.returns-in_err-range_at-clause-reads
returns-in_err-range_at-clause-reads c = λ below.
    let p = err_from_is_err_and c.from_residual-in_err-range_at.result c.from_residual-in_err-range_at.ensures.1 in
    rw (p.1, p.2) (passes _ (c.in_ok-name.ensures.reads 0 (the In ∷ int ∷ the Range ∷ int ∷ the Start ∷ int ∷ below)) (c.in_err-range_at.ensures.reads 0 (int ∷ the Range ∷ int ∷ the Start ∷ int ∷ below)))

pub returns-in_err-range-clause-reads : goal.returns-in_err-range-clause-reads
returns-in_err-range-clause-reads c = λ below.
    let p = err_from_is_err_and c.from_residual-in_err-range.result c.from_residual-in_err-range.ensures.1 in
    rw (p.1, p.2) (passes _ (c.in_ok-name.ensures.reads 0 (the In ∷ int ∷ the Range ∷ int ∷ the Start ∷ int ∷ below) ∙ c.in_ok-range_at.ensures.reads 0 (int ∷ the Range ∷ int ∷ the Start ∷ int ∷ below)) (c.in_err-range.ensures.reads (the Start ∷ int ∷ below)))

pub returns-in_err-number_at-clause-reads : goal.returns-in_err-number_at-clause-reads
returns-in_err-number_at-clause-reads c = λ below.
    let p = err_from_is_err_and c.from_residual-in_err-number_at.result c.from_residual-in_err-number_at.ensures.1 in
    rw (p.1, p.2) (passes _ (c.in_ok-name.ensures.reads 0 (the In ∷ int ∷ the Range ∷ int ∷ the Start ∷ int ∷ below) ∙ c.in_ok-range_at.ensures.reads 0 (int ∷ the Range ∷ int ∷ the Start ∷ int ∷ below) ∙ c.in_ok-range.ensures.reads (the Start ∷ int ∷ below)) (c.in_err-number_at.ensures.reads 0 (int ∷ below)))

pub returns-in_err-start-clause-reads : goal.returns-in_err-start-clause-reads
returns-in_err-start-clause-reads c = λ below.
    let p = err_from_is_err_and c.from_residual-in_err-start.result c.from_residual-in_err-start.ensures.1 in
    rw (p.1, p.2) (passes _ (c.in_ok-name.ensures.reads 0 (the In ∷ int ∷ the Range ∷ int ∷ the Start ∷ int ∷ below) ∙ c.in_ok-range_at.ensures.reads 0 (int ∷ the Range ∷ int ∷ the Start ∷ int ∷ below) ∙ c.in_ok-range.ensures.reads (the Start ∷ int ∷ below) ∙ c.in_ok-number_at.ensures.reads 0 (int ∷ below)) (c.in_err-start.ensures.reads below))

pub returns-clause-reads : goal.returns-clause-reads
returns-clause-reads c = λ below.
    c.in_ok-name.ensures.reads 0 (the In ∷ int ∷ the Range ∷ int ∷ the Start ∷ int ∷ below) ∙ c.in_ok-range_at.ensures.reads 0 (int ∷ the Range ∷ int ∷ the Start ∷ int ∷ below) ∙ c.in_ok-range.ensures.reads (the Start ∷ int ∷ below) ∙ c.in_ok-number_at.ensures.reads 0 (int ∷ below) ∙ c.in_ok-start.ensures.reads below

pub returns-clause-is : goal.returns-clause-is
returns-clause-is c =
    attr-parts c.args.of_cores c.requires.begins c.in_ok-name.ensures.is c.in_ok-name.ensures.word c.in_ok-name.ensures.next.0
    c.in_ok-range_at.ensures.is c.in_ok-range_at.ensures.next.0 c.in_ok-range.ensures.is c.in_ok-number_at.ensures.is
    c.in_ok-number_at.ensures.next.0 c.in_ok-start.ensures.is

use Rattle.std.proofs.Common.{◌∷◌, ◌∙◌, sym}
use Rattle.std.proofs.lemmas.Result.{err_from_is_err_and}
use Rattle.policy_grammar.specs.declared.terminal.Terminal.TheVariants.{Gets, Comma}
use Rattle.policy_grammar.specs.Symbols.{the, field, operand}
use Rattle.policy_parser.proofs.Judged.{passes, word-fails, field-stuck, go-from}
use Rattle.policy_parser.proofs.PartMoves.{field-goes}
use Rattle.policy_parser.proofs.Parts.{set-parts}
use Rattle.policy_parser.proofs.source.Source.set.Goals as goal

pub returns-in_err-word_at-clause-reads : goal.returns-in_err-word_at-clause-reads
returns-in_err-word_at-clause-reads c = λ below.
    let p = err_from_is_err_and c.from_residual.result c.from_residual.ensures.1 in
    rw (p.1, p.2) (c.in_err-word_at.ensures.reads 0 (field ∷ the Gets ∷ operand 0 0 0 ∷ the Comma ∷ below))

pub returns-in_err-word-clause-reads : goal.returns-in_err-word-clause-reads
returns-in_err-word-clause-reads c = λ below.
    let p = err_from_is_err_and c.from_residual-in_err-word.result c.from_residual-in_err-word.ensures.1 in
    rw (p.1, p.2) (passes _ (c.in_ok-word_at.ensures.reads 0 (field ∷ the Gets ∷ operand 0 0 0 ∷ the Comma ∷ below)) (word-fails c.args.self.now.lexemes.now c.in_ok-word_at.word_at _ (field-stuck _ _ c.in_ok-word_at.word_at 0 (the Gets ∷ operand 0 0 0 ∷ the Comma ∷ below)) _ c.in_err-word.ensures.fails))

pub returns-in_err-value_at-clause-reads : goal.returns-in_err-value_at-clause-reads
returns-in_err-value_at-clause-reads c = λ below.
    let p = err_from_is_err_and c.from_residual-in_err-value_at.result c.from_residual-in_err-value_at.ensures.1 in
    rw (p.1, p.2) (passes _ (c.in_ok-word_at.ensures.reads 0 (field ∷ the Gets ∷ operand 0 0 0 ∷ the Comma ∷ below) ∙ field-goes _ _ c.in_ok-word_at.word_at (the Gets ∷ operand 0 0 0 ∷ the Comma ∷ below) c.in_ok-word.ensures.is ∙ go-from _ _ 0 (the Gets ∷ operand 0 0 0 ∷ the Comma ∷ below) (sym c.in_ok-word.ensures.next.0)) (c.in_err-value_at.ensures.reads 0 (operand 0 0 0 ∷ the Comma ∷ below)))

pub returns-in_err-value-clause-reads : goal.returns-in_err-value-clause-reads
returns-in_err-value-clause-reads c = λ below.
    let p = err_from_is_err_and c.from_residual-in_err-value.result c.from_residual-in_err-value.ensures.1 in
    rw (p.1, p.2) (passes _ (c.in_ok-word_at.ensures.reads 0 (field ∷ the Gets ∷ operand 0 0 0 ∷ the Comma ∷ below) ∙ field-goes _ _ c.in_ok-word_at.word_at (the Gets ∷ operand 0 0 0 ∷ the Comma ∷ below) c.in_ok-word.ensures.is ∙ go-from _ _ 0 (the Gets ∷ operand 0 0 0 ∷ the Comma ∷ below) (sym c.in_ok-word.ensures.next.0) ∙ c.in_ok-value_at.ensures.reads 0 (operand 0 0 0 ∷ the Comma ∷ below)) (c.in_err-value.ensures.reads 0 (the Comma ∷ below)))

pub returns-in_err-next-clause-reads : goal.returns-in_err-next-clause-reads
returns-in_err-next-clause-reads c = λ below.
    let p = err_from_is_err_and c.from_residual-in_err-next.result c.from_residual-in_err-next.ensures.1 in
    rw (p.1, p.2) (passes _ (c.in_ok-word_at.ensures.reads 0 (field ∷ the Gets ∷ operand 0 0 0 ∷ the Comma ∷ below) ∙ field-goes _ _ c.in_ok-word_at.word_at (the Gets ∷ operand 0 0 0 ∷ the Comma ∷ below) c.in_ok-word.ensures.is ∙ go-from _ _ 0 (the Gets ∷ operand 0 0 0 ∷ the Comma ∷ below) (sym c.in_ok-word.ensures.next.0) ∙ c.in_ok-value_at.ensures.reads 0 (operand 0 0 0 ∷ the Comma ∷ below) ∙ c.in_ok-value.ensures.reads 0 (the Comma ∷ below)) (c.in_err-next.ensures.reads 0 below))

pub returns-clause-reads : goal.returns-clause-reads
returns-clause-reads c = λ below. c.in_ok-word_at.ensures.reads 0 (field ∷ the Gets ∷ operand 0 0 0 ∷ the Comma ∷ below) ∙ field-goes _ _ c.in_ok-word_at.word_at (the Gets ∷ operand 0 0 0 ∷ the Comma ∷ below) c.in_ok-word.ensures.is ∙ go-from _ _ 0 (the Gets ∷ operand 0 0 0 ∷ the Comma ∷ below) (sym c.in_ok-word.ensures.next.0) ∙ c.in_ok-value_at.ensures.reads 0 (operand 0 0 0 ∷ the Comma ∷ below) ∙ c.in_ok-value.ensures.reads 0 (the Comma ∷ below) ∙ c.in_ok-next.ensures.reads 0 below

pub returns-clause-is : goal.returns-clause-is
returns-clause-is c = λ task.
    set-parts task c.in_ok-word_at.ensures.is c.in_ok-word_at.ensures.next.0 c.in_ok-word.ensures.is c.in_ok-word.ensures.word c.in_ok-word.ensures.next.0
    c.in_ok-value_at.ensures.is c.in_ok-value_at.ensures.next.0 c.in_ok-value.ensures.is c.in_ok-next.ensures.is c.in_ok-next.ensures.next.0

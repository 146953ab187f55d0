use Rattle.std.proofs.Common.{◌≡◌, true, false, refl, sym, ap, arith, ◌∙◌}
use Rattle.std.proofs.lemmas.Result.{err_from_is_err_and}
use Rattle.policy_grammar.specs.Terminals.{code, kind_at, is_word}
use Rattle.policy_parser.proofs.Judged.{inside, word-some}
use Rattle.policy_parser.proofs.source.Source.word.Goals as goal

pub returns-then-not-is_word-clause-fails : goal.returns-then-not-is_word-clause-fails
returns-then-not-is_word-clause-fails c =
    let none : is_word (kind_at c.args.self.now.lexemes.now c.args.at) ≡ false =
    ap (λ l. is_word (code l.terminal)) (sym c.lexeme.ensures) ∙ sym c.is_word.ensures ∙ c.if-not-is_word.true in
    (refl, none)

pub returns-in_err-name-clause-fails : goal.returns-in_err-name-clause-fails
returns-in_err-name-clause-fails c =
    let p = err_from_is_err_and c.from_residual.result c.from_residual.ensures.1 in
    rw (p.1, p.2, c.in_err-name.ensures.memory) tt

pub overflow_add-result : goal.overflow_add-result
overflow_add-result c =
    let some : is_word (kind_at c.args.self.now.lexemes.now c.args.at) ≡ true =
    ap (λ l. is_word (code l.terminal)) (sym c.lexeme.ensures) ∙ sym c.is_word.ensures ∙ c.if-not-is_word.false in
    let less = inside c.args.self.now.lexemes.now c.args.at refl (word-some _ some) in
    omega arith

pub returns-clause-next : goal.returns-clause-next
returns-clause-next c =
    let some : is_word (kind_at c.args.self.now.lexemes.now c.args.at) ≡ true =
    ap (λ l. is_word (code l.terminal)) (sym c.lexeme.ensures) ∙ sym c.is_word.ensures ∙ c.if-not-is_word.false in
    let less = inside c.args.self.now.lexemes.now c.args.at refl (word-some _ some) in
    (refl, omega arith)

pub returns-clause-is : goal.returns-clause-is
returns-clause-is c = ap (λ l. is_word (code l.terminal)) (sym c.lexeme.ensures) ∙ sym c.is_word.ensures ∙ c.if-not-is_word.false

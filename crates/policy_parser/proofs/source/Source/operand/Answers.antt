use Rattle.std.proofs.Common.{◌∷◌, ◌∙◌, ◌+◌, refl, sym, lit<}
use Rattle.std.specs.Prelude.{None}
use Rattle.std.proofs.lemmas.Result.{err_from_is_err_and}
use Rattle.policy_grammar.specs.Expressions.{operand_number}
use Rattle.policy_grammar.specs.declared.terminal.Terminal.TheVariants as terminal
use Rattle.policy_grammar.specs.Terminals.{code}
use Rattle.policy_grammar.specs.Symbols.{operand, dot, word}
use Rattle.policy_grammar.proofs.Steps.{go-stuck, go-move}
use Rattle.policy_grammar.proofs.CompleteExpressions.{operand_read, owner-read}
use Rattle.policy_parser.proofs.Judged.{yes, isnt, passes, fails-at, word-fails, word-stuck, go-from}
use Rattle.policy_parser.proofs.Parts.{reference_of}
use Rattle.policy_parser.proofs.source.Source.operand.Goals as goal

pub returns-then-has-clause-is : goal.returns-then-has-clause-is
returns-then-has-clause-is c = rw c.lexeme.ensures (operand_number (yes c.has.ensures.is c.if-has.true))

pub returns-then-has-clause-reads : goal.returns-then-has-clause-reads
returns-then-has-clause-reads c = λ count base depth before below plain.
    operand_read _ c.args.self.now.text.now _ (operand_number (yes c.has.ensures.is c.if-has.true)) count base depth before below

pub returns-in-None-clause-reads : goal.returns-in-None-clause-reads
returns-in-None-clause-reads c = λ count base depth before below plain.
    go-stuck _ _ c.args.at count (operand base depth before ∷ below) refl
    (rw (isnt c.has.ensures.is c.if-has.false, plain, c.in-None.ensures.none) refl)

pub returns-in_err-dot-clause-reads : goal.returns-in_err-dot-clause-reads
returns-in_err-dot-clause-reads c = λ count base depth before below plain.
    let p = err_from_is_err_and c.from_residual.result c.from_residual.ensures.1 in
    rw (p.1, p.2)
    (fails-at _ c.in_err-dot.ensures.fails
    (owner-read _ c.args.self.now.text.now _ c.args.at count base depth before below c.in-Some.owner c.in-Some.ensures.some
    ∙ go-stuck _ _ (c.args.at + 1) count (dot base before ∷ below) refl (rw c.in_err-dot.ensures.isnt refl)))

pub returns-in_err-word-clause-reads : goal.returns-in_err-word-clause-reads
returns-in_err-word-clause-reads c = λ count base depth before below plain.
    let p = err_from_is_err_and c.from_residual-in_err-word.result c.from_residual-in_err-word.ensures.1 in
    rw (p.1, p.2)
    (passes _
    (owner-read _ c.args.self.now.text.now _ c.args.at count base depth before below c.in-Some.owner c.in-Some.ensures.some
    ∙ go-move _ _ (c.args.at + 1) (code terminal.Dot) count count (dot base before ∷ below) (word base before ∷ below) None c.in_ok-dot.ensures.is (lit< tt) refl
    ∙ go-from _ _ count (word base before ∷ below) (sym c.in_ok-dot.ensures.next.0))
    (word-fails c.args.self.now.lexemes.now c.in_ok-dot.dot _ (word-stuck _ _ c.in_ok-dot.dot count base before below) _ c.in_err-word.ensures.fails))

pub returns-clause-is : goal.returns-clause-is
returns-clause-is c =
    reference_of c.in-Some.owner c.in-Some.ensures.some c.in_ok-dot.ensures.is c.in_ok-dot.ensures.next.0 c.in_ok-word.ensures.is
    c.in_ok-word.ensures.next.0 c.in_ok-word.ensures.word

pub returns-clause-reads : goal.returns-clause-reads
returns-clause-reads c = λ count base depth before below plain.
    operand_read _ _ _
    (reference_of c.in-Some.owner c.in-Some.ensures.some c.in_ok-dot.ensures.is c.in_ok-dot.ensures.next.0 c.in_ok-word.ensures.is
    c.in_ok-word.ensures.next.0 c.in_ok-word.ensures.word) count base depth before below

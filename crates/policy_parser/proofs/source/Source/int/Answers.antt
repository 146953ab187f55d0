use Rattle.std.proofs.Common.{◌∙◌, ap}
use Rattle.std.proofs.lemmas.Result.{err_from_is_err_and}
use Rattle.policy_grammar.specs.Expressions.{int_plain}
use Rattle.policy_parser.proofs.Judged.{yes, isnt, passes}
use Rattle.policy_parser.proofs.PartMoves.{int-none, minus-goes}
use Rattle.policy_parser.proofs.Parts.{signed-int}
use Rattle.policy_grammar.proofs.CompleteExpressions.{int_read}
use Rattle.policy_parser.proofs.source.Source.int.Goals as goal

pub returns-then-has-clause-is : goal.returns-then-has-clause-is
returns-then-has-clause-is c = rw c.lexeme-value.ensures (int_plain (yes c.has.ensures.is c.if-has.true))

pub returns-then-has-clause-reads : goal.returns-then-has-clause-reads
returns-then-has-clause-reads c = λ below. int_read _ c.args.self.now.text.now _ (int_plain (yes c.has.ensures.is c.if-has.true)) below

pub returns-then-not-has-clause-reads : goal.returns-then-not-has-clause-reads
returns-then-not-has-clause-reads c = λ below. int-none _ _ c.args.at below (isnt c.has.ensures.is c.if-has.false) (isnt c.has-2.ensures.is c.if-not-has.true)

pub returns-in_err-next-clause-reads : goal.returns-in_err-next-clause-reads
returns-in_err-next-clause-reads c = λ below.
    let p = err_from_is_err_and c.from_residual.result c.from_residual.ensures.1 in
    rw (p.1, p.2) (passes _ (minus-goes _ _ c.args.at below (yes c.has-2.ensures.is c.if-not-has.false)) (c.in_err-next.ensures.reads 0 below))

pub returns-clause-is : goal.returns-clause-is
returns-clause-is c = signed-int (yes c.has-2.ensures.is c.if-not-has.false) c.in_ok-next.ensures.is c.in_ok-next.ensures.next.0 (ap (λ l. l.value) c.lexeme-value-2.ensures)

pub returns-clause-reads : goal.returns-clause-reads
returns-clause-reads c = λ below.
    minus-goes _ _ c.args.at below (yes c.has-2.ensures.is c.if-not-has.false) ∙ c.in_ok-next.ensures.reads 0 below

use Rattle.std.proofs.Common.{◌≡◌, OnOk, subst, Bool, sym, ap}
use Rattle.policy_tree.specs.Meaning.{meaning_of}
use Rattle.policy_tree.specs.Trees.{expr_tree, plus, minus, times}
use Rattle.c_printer.specs.Adds.{Adds}
use Rattle.c_printer.specs.ExpressionTexts.{enclosed, expr_texts}
use Rattle.c_printer.proofs.AddsLemmas.{◌⊳◌, given_ok, reads_as, same_texts}
use Rattle.c_printer.proofs.printer.Printer.+parts.Goals as goal

pub operand-returns : goal.operand-returns
operand-returns t c =
    subst (λ (o : Bool). OnOk c.word-2.result (Adds (enclosed o (expr_texts (meaning_of c.args.policy.now) c.args.view c.args.width
    (expr_tree c.args.expr.now))) c.args.self.now.bytes.items c.word-2.new.self.bytes.items)) c.opens_expr-opens.ensures
    (given_ok c.word-2.result c.word-2.ensures
    (λ last. reads_as c.opening_text.ensures c.in_ok-word.ensures ⊳ c.in_ok-expression.ensures ⊳ reads_as c.closing_text.ensures last))

pub expression-returns-in-Add : goal.expression-returns-in-Add
expression-returns-in-Add t c =
    let split : expr_tree c.args.expr.now ≡ plus (expr_tree c.deref-in-Add.result.now) (expr_tree c.deref-in-Add-2.result.now)
    = rw c.deref-in-Add.ensures (rw c.deref-in-Add-2.ensures (ap expr_tree c.in-Add.is)) in
    given_ok c.sum.result c.sum.ensures
    (λ last. same_texts (sym (ap (expr_texts (meaning_of c.args.policy.now) c.args.view c.args.width) split)) last)

pub expression-returns-in-Sub : goal.expression-returns-in-Sub
expression-returns-in-Sub t c =
    let split : expr_tree c.args.expr.now ≡ minus (expr_tree c.deref-in-Sub.result.now) (expr_tree c.deref-in-Sub-2.result.now)
    = rw c.deref-in-Sub.ensures (rw c.deref-in-Sub-2.ensures (ap expr_tree c.in-Sub.is)) in
    given_ok c.sum-in-Sub.result c.sum-in-Sub.ensures
    (λ last. same_texts (sym (ap (expr_texts (meaning_of c.args.policy.now) c.args.view c.args.width) split)) last)

pub sum-returns : goal.sum-returns
sum-returns t c =
    given_ok c.operand-2.result c.operand-2.ensures
    (λ last. c.in_ok-operand.ensures ⊳ c.in_ok-word.ensures ⊳ last)

pub expression-returns-in_ok-word-in-Mul : goal.expression-returns-in_ok-word-in-Mul
expression-returns-in_ok-word-in-Mul t c =
    let split : expr_tree c.args.expr.now ≡ times (expr_tree c.deref-in-Mul.result.now) (expr_tree c.deref-in-Mul-2.result.now)
    = rw c.deref-in-Mul.ensures (rw c.deref-in-Mul-2.ensures (ap expr_tree c.in-Mul.is)) in
    given_ok c.operand-in-Mul-2.result c.operand-in-Mul-2.ensures
    (λ last. same_texts (sym (ap (expr_texts (meaning_of c.args.policy.now) c.args.view c.args.width) split))
    (c.in_ok-operand-in-Mul.ensures ⊳ c.in_ok-word-in-Mul.ensures ⊳ last))

use Rattle.std.proofs.Common.{◌∷◌, ◌∙◌, subst}
use Rattle.std.proofs.lemmas.Result.{err_from_is_err_and}
use Rattle.policy_syntax.specs.SyntaxTrees.{order_syntax_tree}
use Rattle.policy_grammar.specs.Orders.{IsOrder}
use Rattle.policy_grammar.specs.Symbols.{order}
use Rattle.policy_parser.proofs.Judged.{passes}
use Rattle.policy_parser.proofs.source.Source.order_behind.Goals as goal

pub returns-in_err-order_at-clause-reads : goal.returns-in_err-order_at-clause-reads
returns-in_err-order_at-clause-reads c = λ count below.
    let p = err_from_is_err_and c.from_residual.result c.from_residual.ensures.1 in
    rw (p.1, p.2) (c.in_err-order_at.ensures.reads count (order c.args.most ∷ below))

pub returns-in_err-order-clause-reads : goal.returns-in_err-order-clause-reads
returns-in_err-order-clause-reads c = λ count below.
    let p = err_from_is_err_and c.from_residual-in_err-order.result c.from_residual-in_err-order.ensures.1 in
    rw (p.1, p.2) (passes _ (c.in_ok-order_at.ensures.reads count (order c.args.most ∷ below)) (c.in_err-order.ensures.reads below))

pub returns-clause-reads : goal.returns-clause-reads
returns-clause-reads c = λ count below.
    c.in_ok-order_at.ensures.reads count (order c.args.most ∷ below) ∙ c.in_ok-order.ensures.reads below

pub returns-clause-is : goal.returns-clause-is
returns-clause-is c =
    subst (λ n. IsOrder c.args.self.now.text.now c.args.self.now.lexemes.now n (order_syntax_tree c.in_ok-order.order) c.in_ok-order.next) c.in_ok-order_at.ensures.next.0 c.in_ok-order.ensures.is

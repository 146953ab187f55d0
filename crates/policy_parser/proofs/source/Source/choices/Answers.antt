use Rattle.std.proofs.Common.{◌∷◌, ◌∙◌, ◌+◌, [], sym, subst}
use Rattle.std.proofs.lemmas.Result.{err_from_is_err_and}
use Rattle.policy_syntax.specs.SyntaxTrees.{order_syntax_tree}
use Rattle.policy_grammar.specs.declared.terminal.Terminal.TheVariants.{Steal}
use Rattle.policy_grammar.specs.Symbols.{the, order, batch}
use Rattle.policy_grammar.specs.Orders.{IsOrder}
use Rattle.policy_parser.proofs.Judged.{passes}
use Rattle.policy_parser.proofs.source.Source.choices.Goals as goal

pub returns-in_err-choose-clause-reads : goal.returns-in_err-choose-clause-reads
returns-in_err-choose-clause-reads c = λ count.
    let p = err_from_is_err_and c.from_residual.result c.from_residual.ensures.1 in
    rw (p.1, p.2) (c.in_err-choose.ensures.reads count (the Steal ∷ order c.args.self.now.limits.keys ∷ batch ∷ []))

pub returns-in_err-choose-2-clause-reads : goal.returns-in_err-choose-2-clause-reads
returns-in_err-choose-2-clause-reads c = λ count.
    let p = err_from_is_err_and c.from_residual-in_err-choose-2.result c.from_residual-in_err-choose-2.ensures.1 in
    rw (p.1, p.2)
    (passes _ (c.in_ok-choose.ensures.reads count (the Steal ∷ order c.args.self.now.limits.keys ∷ batch ∷ [])) (rw c.in_err-choose-2.ensures.err at (c.steals.ensures.reads 0)))

pub returns-clause-reads : goal.returns-clause-reads
returns-clause-reads c = λ count.
    c.in_ok-choose.ensures.reads count (the Steal ∷ order c.args.self.now.limits.keys ∷ batch ∷ []) ∙ (rw c.in_ok-choose-2.ensures.ok.1 at (c.steals.ensures.reads 0))

pub returns-clause-is : goal.returns-clause-is
returns-clause-is c =
    record {
      begins = c.in_ok-choose.ensures.begins;
      chooses =
          subst (λ o. IsOrder c.args.self.now.text.now c.args.self.now.lexemes.now (c.args.at + 1) (order_syntax_tree o) c.in_ok-choose.steal_at)
          (sym c.in_ok-choose-2.ensures.ok.0) c.in_ok-choose.ensures.is;
      follows = rw c.in_ok-choose-2.ensures.ok.1 at c.steals.ensures.is;
    }

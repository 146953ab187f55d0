use Rattle.std.proofs.Common.{◌≡◌, ◌+◌, ◌∷◌, ◌∙◌, [], option_map, refl, sym, length, subst, arith}
use Rattle.std.proofs.lemmas.Result.{err_from_is_err_and}
use Rattle.policy_syntax.specs.SyntaxTrees.{batch_syntax_tree, order_syntax_tree}
use Rattle.policy_grammar.specs.Symbols.{batch}
use Rattle.policy_grammar.specs.Orders.{IsOrder}
use Rattle.policy_grammar.specs.Policies.{IsBatch}
use Rattle.policy_grammar.proofs.Steps.{is-zero}
use Rattle.policy_parser.proofs.Judged.{passes, past-end}
use Rattle.policy_parser.proofs.source.Source.steals.Goals as goal

pub returns-in_err-steal-clause-reads : goal.returns-in_err-steal-clause-reads
returns-in_err-steal-clause-reads c = λ count.
    let p = err_from_is_err_and c.from_residual.result c.from_residual.ensures.1 in
    rw (p.1, p.2) (c.in_err-steal.ensures.reads count (batch ∷ []))

pub returns-in_err-steal-2-clause-reads : goal.returns-in_err-steal-2-clause-reads
returns-in_err-steal-2-clause-reads c = λ count.
    let p = err_from_is_err_and c.from_residual-in_err-steal-2.result c.from_residual-in_err-steal-2.ensures.1 in
    rw (p.1, p.2)
    (passes _ (c.in_ok-steal.ensures.reads count (batch ∷ [])) (rw c.in_err-steal-2.ensures.err at (c.batch.ensures.reads [])))

pub returns-then-end-self-clause-reads : goal.returns-then-end-self-clause-reads
returns-then-end-self-clause-reads c = λ count.
    c.in_ok-steal.ensures.reads count (batch ∷ []) ∙ (rw c.in_ok-steal-2.ensures.ok.1 at (c.batch.ensures.reads []))
    ∙ past-end _ _ c.in_ok-steal-2.end c.if-end-self.true

pub returns-clause-reads : goal.returns-clause-reads
returns-clause-reads c = λ count.
    let within = rw c.in_ok-steal-2.ensures.ok.1 at c.batch.ensures.within in
    c.in_ok-steal.ensures.reads count (batch ∷ []) ∙ (rw c.in_ok-steal-2.ensures.ok.1 at (c.batch.ensures.reads []))
    ∙ is-zero _ _ c.in_ok-steal-2.end (omega (arith, c.if-end-self.false, within)) 0 [] refl

pub returns-clause-is : goal.returns-clause-is
returns-clause-is c =
    let within = rw c.in_ok-steal-2.ensures.ok.1 at c.batch.ensures.within in
    let last : c.in_ok-steal-2.end ≡ length c.args.self.now.lexemes.now = omega (arith, c.if-end-self.false, within) in
    record {
      mid = c.in_ok-steal.batch_at;
      begins = c.in_ok-steal.ensures.begins;
      steals =
          subst (λ o. IsOrder c.args.self.now.text.now c.args.self.now.lexemes.now (c.args.at + 1) (order_syntax_tree o) c.in_ok-steal.batch_at)
          (sym c.in_ok-steal-2.ensures.ok.0) c.in_ok-steal.ensures.is;
      goes_on =
          subst (λ n. IsBatch c.args.self.now.text.now c.args.self.now.lexemes.now c.in_ok-steal.batch_at (option_map batch_syntax_tree c.in_ok-steal-2.batch) n) last
          (rw c.in_ok-steal-2.ensures.ok.1 at c.batch.ensures.is);
    }

use Rattle.std.proofs.Common.{◌∷◌, ◌∙◌, sym, subst, arith}
use Rattle.std.proofs.lemmas.Result.{err_from_is_err_and}
use Rattle.policy_syntax.specs.SyntaxTrees.{condition_tree}
use Rattle.policy_grammar.specs.declared.terminal.Terminal.TheVariants.{Colon}
use Rattle.policy_grammar.specs.Conditions.{IsCondition}
use Rattle.policy_grammar.specs.Symbols.{the}
use Rattle.policy_parser.proofs.Judged.{passes}
use Rattle.policy_parser.proofs.source.Source.guard.Goals as goal

pub returns-in_err-guard-clause-reads : goal.returns-in_err-guard-clause-reads
returns-in_err-guard-clause-reads c = λ below.
    let p = err_from_is_err_and c.from_residual.result c.from_residual.ensures.1 in
    rw (p.1, p.2) (c.in_err-guard.ensures.reads (the Colon ∷ below))

pub returns-in_err-guard-2-clause-reads : goal.returns-in_err-guard-2-clause-reads
returns-in_err-guard-2-clause-reads c = λ below.
    let p = err_from_is_err_and c.from_residual-in_err-guard-2.result c.from_residual-in_err-guard-2.ensures.1 in
    rw (p.1, p.2)
    (passes _ (c.in_ok-guard.ensures.reads (the Colon ∷ below)) (rw c.in_err-guard-2.ensures.err at (c.expect.ensures.reads c.in_ok-guard._count below)))

pub returns-clause-reads : goal.returns-clause-reads
returns-clause-reads c = λ below.
    c.in_ok-guard.ensures.reads (the Colon ∷ below) ∙ (rw c.in_ok-guard-2.ensures.ok.1 at (c.expect.ensures.reads c.in_ok-guard._count below))

pub returns-clause-is : goal.returns-clause-is
returns-clause-is c =
    let next = rw c.in_ok-guard-2.ensures.ok.1 at c.expect.ensures.next in
    record {
      colon_at = c.in_ok-guard.colon_at;
      is =
          subst (λ g. IsCondition c.args.self.now.text.now c.args.self.now.lexemes.now c.args.at (condition_tree g) c.in_ok-guard.colon_at)
          (sym c.in_ok-guard-2.ensures.ok.0) c.in_ok-guard.ensures.is;
      colon = rw c.in_ok-guard-2.ensures.ok.1 at c.expect.ensures.is;
      next = next.0;
    }

pub returns-clause-later : goal.returns-clause-later
returns-clause-later c =
    let next = rw c.in_ok-guard-2.ensures.ok.1 at c.expect.ensures.next in
    (omega (arith, next.0, c.in_ok-guard.ensures.later), next.1)

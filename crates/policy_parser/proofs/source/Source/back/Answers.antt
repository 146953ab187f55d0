use Rattle.std.proofs.Common.{◌+◌, ◌∷◌, ◌∙◌, [], sym, subst}
use Rattle.std.proofs.lemmas.Result.{err_from_is_err_and}
use Rattle.policy_grammar.specs.declared.terminal.Terminal.TheVariants.{Filter, Choose, Steal}
use Rattle.policy_syntax.specs.SyntaxTrees.{condition_tree}
use Rattle.policy_grammar.specs.Conditions.{IsCondition}
use Rattle.policy_grammar.specs.Symbols.{the, condition, order, batch}
use Rattle.policy_parser.proofs.Judged.{passes}
use Rattle.policy_parser.proofs.Moves.{condition-begins}
use Rattle.policy_parser.proofs.source.Source.back.Goals as goal

pub returns-in_err-handlers-clause-reads : goal.returns-in_err-handlers-clause-reads
returns-in_err-handlers-clause-reads c =
    let p = err_from_is_err_and c.from_residual.result c.from_residual.ensures.1 in
    rw (p.1, p.2) (c.in_err-handlers.ensures.reads (the Filter ∷ condition c.args.self.now.limits.comparisons ∷ the Choose ∷ order c.args.self.now.limits.keys ∷ the Steal ∷ order c.args.self.now.limits.keys ∷ batch ∷ []))

pub returns-in_err-guard_at-clause-reads : goal.returns-in_err-guard_at-clause-reads
returns-in_err-guard_at-clause-reads c =
    let p = err_from_is_err_and c.from_residual-in_err-guard_at.result c.from_residual-in_err-guard_at.ensures.1 in
    rw (p.1, p.2) (passes _ (c.in_ok-handlers.ensures.reads (the Filter ∷ condition c.args.self.now.limits.comparisons ∷ the Choose ∷ order c.args.self.now.limits.keys ∷ the Steal ∷ order c.args.self.now.limits.keys ∷ batch ∷ [])) (c.in_err-guard_at.ensures.reads 0 (condition c.args.self.now.limits.comparisons ∷ the Choose ∷ order c.args.self.now.limits.keys ∷ the Steal ∷ order c.args.self.now.limits.keys ∷ batch ∷ [])))

pub returns-in_err-filter-clause-reads : goal.returns-in_err-filter-clause-reads
returns-in_err-filter-clause-reads c =
    let p = err_from_is_err_and c.from_residual-in_err-filter.result c.from_residual-in_err-filter.ensures.1 in
    rw (p.1, p.2) (passes _ (c.in_ok-handlers.ensures.reads (the Filter ∷ condition c.args.self.now.limits.comparisons ∷ the Choose ∷ order c.args.self.now.limits.keys ∷ the Steal ∷ order c.args.self.now.limits.keys ∷ batch ∷ [])
    ∙ c.in_ok-guard_at.ensures.reads 0 (condition c.args.self.now.limits.comparisons ∷ the Choose ∷ order c.args.self.now.limits.keys ∷ the Steal ∷ order c.args.self.now.limits.keys ∷ batch ∷ [])
    ∙ condition-begins _ _ c.in_ok-guard_at.guard_at 0 c.args.self.now.limits.comparisons (the Choose ∷ order c.args.self.now.limits.keys ∷ the Steal ∷ order c.args.self.now.limits.keys ∷ batch ∷ [])) (c.in_err-filter.ensures.reads (the Choose ∷ order c.args.self.now.limits.keys ∷ the Steal ∷ order c.args.self.now.limits.keys ∷ batch ∷ [])))

pub returns-in_err-filter-2-clause-reads : goal.returns-in_err-filter-2-clause-reads
returns-in_err-filter-2-clause-reads c =
    let p = err_from_is_err_and c.from_residual-in_err-filter-2.result c.from_residual-in_err-filter-2.ensures.1 in
    rw (p.1, p.2) (passes _ (c.in_ok-handlers.ensures.reads (the Filter ∷ condition c.args.self.now.limits.comparisons ∷ the Choose ∷ order c.args.self.now.limits.keys ∷ the Steal ∷ order c.args.self.now.limits.keys ∷ batch ∷ [])
    ∙ c.in_ok-guard_at.ensures.reads 0 (condition c.args.self.now.limits.comparisons ∷ the Choose ∷ order c.args.self.now.limits.keys ∷ the Steal ∷ order c.args.self.now.limits.keys ∷ batch ∷ [])
    ∙ condition-begins _ _ c.in_ok-guard_at.guard_at 0 c.args.self.now.limits.comparisons (the Choose ∷ order c.args.self.now.limits.keys ∷ the Steal ∷ order c.args.self.now.limits.keys ∷ batch ∷ [])
    ∙ c.in_ok-filter.ensures.reads (the Choose ∷ order c.args.self.now.limits.keys ∷ the Steal ∷ order c.args.self.now.limits.keys ∷ batch ∷ [])) (rw c.in_err-filter-2.ensures.err at (c.choices.ensures.reads c.in_ok-filter._count)))

pub returns-clause-reads : goal.returns-clause-reads
returns-clause-reads c =
    c.in_ok-handlers.ensures.reads (the Filter ∷ condition c.args.self.now.limits.comparisons ∷ the Choose ∷ order c.args.self.now.limits.keys ∷ the Steal ∷ order c.args.self.now.limits.keys ∷ batch ∷ [])
    ∙ c.in_ok-guard_at.ensures.reads 0 (condition c.args.self.now.limits.comparisons ∷ the Choose ∷ order c.args.self.now.limits.keys ∷ the Steal ∷ order c.args.self.now.limits.keys ∷ batch ∷ [])
    ∙ condition-begins _ _ c.in_ok-guard_at.guard_at 0 c.args.self.now.limits.comparisons (the Choose ∷ order c.args.self.now.limits.keys ∷ the Steal ∷ order c.args.self.now.limits.keys ∷ batch ∷ [])
    ∙ c.in_ok-filter.ensures.reads (the Choose ∷ order c.args.self.now.limits.keys ∷ the Steal ∷ order c.args.self.now.limits.keys ∷ batch ∷ [])
    ∙ (rw c.in_ok-filter-2.ensures.ok.1 at (c.choices.ensures.reads c.in_ok-filter._count))

pub returns-clause-is : goal.returns-clause-is
returns-clause-is c =
    record {
      are = c.in_ok-handlers.ensures.is;
      begins = c.in_ok-guard_at.ensures.is;
      filters =
          subst (λ v. IsCondition c.args.self.now.text.now c.args.self.now.lexemes.now (c.in_ok-handlers.filter_at + 1) (condition_tree v) c.in_ok-filter.choose_at)
          (sym c.in_ok-filter-2.ensures.ok.0)
          (subst (λ n. IsCondition c.args.self.now.text.now c.args.self.now.lexemes.now n (condition_tree c.in_ok-filter.filter) c.in_ok-filter.choose_at)
          c.in_ok-guard_at.ensures.next.0 c.in_ok-filter.ensures.is);
      choices = rw c.in_ok-filter-2.ensures.ok.1 at c.choices.ensures.is;
    }

use Rattle.std.proofs.Common.{◌∷◌, ◌∙◌, subst, arith}
use Rattle.std.proofs.lemmas.Result.{err_from_is_err_and}
use Rattle.policy_syntax.specs.SyntaxTrees.{condition_tree}
use Rattle.policy_grammar.specs.Conditions.{IsCondition}
use Rattle.policy_grammar.specs.Symbols.{levels, condition}
use Rattle.policy_grammar.proofs.CompleteLevels.{levels-anew}
use Rattle.policy_parser.proofs.Judged.{passes}
use Rattle.policy_parser.proofs.Moves.{condition-begins}
use Rattle.policy_parser.proofs.source.Source.level_filter.Goals as goal

pub returns-in_err-guard_at-clause-reads : goal.returns-in_err-guard_at-clause-reads
returns-in_err-guard_at-clause-reads c = λ count before below.
    let p = err_from_is_err_and c.from_residual.result c.from_residual.ensures.1 in
    rw (p.1, p.2) (c.in_err-guard_at.ensures.reads count (condition c.args.self.now.limits.level_comparisons ∷ levels before ∷ below))

pub returns-in_err-filter-clause-reads : goal.returns-in_err-filter-clause-reads
returns-in_err-filter-clause-reads c = λ count before below.
    let p = err_from_is_err_and c.from_residual-in_err-filter.result c.from_residual-in_err-filter.ensures.1 in
    rw (p.1, p.2)
    (passes _ (c.in_ok-guard_at.ensures.reads count (condition c.args.self.now.limits.level_comparisons ∷ levels before ∷ below)
    ∙ condition-begins _ _ c.in_ok-guard_at.guard_at 0 c.args.self.now.limits.level_comparisons (levels before ∷ below))
    (c.in_err-filter.ensures.reads (levels before ∷ below)))

pub returns-clause-reads : goal.returns-clause-reads
returns-clause-reads c = λ count before below.
    c.in_ok-guard_at.ensures.reads count (condition c.args.self.now.limits.level_comparisons ∷ levels before ∷ below)
    ∙ condition-begins _ _ c.in_ok-guard_at.guard_at 0 c.args.self.now.limits.level_comparisons (levels before ∷ below)
    ∙ c.in_ok-filter.ensures.reads (levels before ∷ below)
    ∙ levels-anew _ c.args.self.now.text.now _ c.in_ok-filter.next c.in_ok-filter._count before below

pub returns-clause-later : goal.returns-clause-later
returns-clause-later c = (omega (arith, c.in_ok-guard_at.ensures.next, c.in_ok-filter.ensures.later), c.in_ok-filter.ensures.later.1)

pub returns-clause-is : goal.returns-clause-is
returns-clause-is c =
    subst (λ n. IsCondition c.args.self.now.text.now c.args.self.now.lexemes.now n (condition_tree c.in_ok-filter.filter) c.in_ok-filter.next)
    c.in_ok-guard_at.ensures.next.0 c.in_ok-filter.ensures.is

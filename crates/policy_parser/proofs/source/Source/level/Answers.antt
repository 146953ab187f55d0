use Rattle.std.proofs.Common.{◌∷◌, ◌∙◌, ◌+◌, sym, subst, arith}
use Rattle.std.proofs.lemmas.Result.{err_from_is_err_and}
use Rattle.policy_syntax.specs.SyntaxTrees.{condition_tree}
use Rattle.policy_grammar.specs.declared.terminal.Terminal.TheVariants.{Filter}
use Rattle.policy_grammar.specs.Levels.{IsLevelWithin}
use Rattle.policy_grammar.specs.Symbols.{the, levels, within, condition}
use Rattle.policy_parser.proofs.Judged.{yes, isnt, passes}
use Rattle.policy_parser.proofs.LevelMoves.{level-goes, level-many, level-none}
use Rattle.policy_parser.proofs.LevelParts.{level-parts}
use Rattle.policy_parser.proofs.source.Source.level.Goals as goal

pub returns-then-not-has-clause-reads : goal.returns-then-not-has-clause-reads
returns-then-not-has-clause-reads c = λ below. level-none _ _ c.args.at c.args.before below (isnt c.has.ensures.is c.if-not-has.true)

pub returns-then-before-self-clause-reads : goal.returns-then-before-self-clause-reads
returns-then-before-self-clause-reads c = λ below. level-many _ _ c.args.at c.args.before below (yes c.has.ensures.is c.if-not-has.false) c.if-before-self.true

pub returns-in_err-within_at-clause-reads : goal.returns-in_err-within_at-clause-reads
returns-in_err-within_at-clause-reads c = λ below.
    let p = err_from_is_err_and c.from_residual.result c.from_residual.ensures.1 in let rest = the Filter ∷ condition c.args.self.now.limits.level_comparisons ∷ levels (c.args.before + 1) ∷ below in
    rw (p.1, p.2)
    (passes _ (level-goes _ _ c.args.at c.args.before below (yes c.has.ensures.is c.if-not-has.false) c.if-before-self.false)
    (c.in_err-within_at.ensures.reads 0 (within ∷ rest)))

pub returns-in_err-within-clause-reads : goal.returns-in_err-within-clause-reads
returns-in_err-within-clause-reads c = λ below.
    let p = err_from_is_err_and c.from_residual-in_err-within.result c.from_residual-in_err-within.ensures.1 in
    let rest = the Filter ∷ condition c.args.self.now.limits.level_comparisons ∷ levels (c.args.before + 1) ∷ below in
    rw (p.1, p.2)
    (passes _ (level-goes _ _ c.args.at c.args.before below (yes c.has.ensures.is c.if-not-has.false) c.if-before-self.false
    ∙ c.in_ok-within_at.ensures.reads 0 (within ∷ rest))
    (c.in_err-within.ensures.reads rest))

pub returns-in_err-within-2-clause-reads : goal.returns-in_err-within-2-clause-reads
returns-in_err-within-2-clause-reads c = λ below.
    let p = err_from_is_err_and c.from_residual-in_err-within-2.result c.from_residual-in_err-within-2.ensures.1 in
    let rest = the Filter ∷ condition c.args.self.now.limits.level_comparisons ∷ levels (c.args.before + 1) ∷ below in
    rw (p.1, p.2)
    (passes _ (level-goes _ _ c.args.at c.args.before below (yes c.has.ensures.is c.if-not-has.false) c.if-before-self.false
    ∙ c.in_ok-within_at.ensures.reads 0 (within ∷ rest) ∙ c.in_ok-within.ensures.reads rest)
    (rw c.in_err-within-2.ensures.err at (c.level_filter.ensures.reads c.in_ok-within._count (c.args.before + 1) below)))

pub returns-clause-reads : goal.returns-clause-reads
returns-clause-reads c = λ below.
    let rest = the Filter ∷ condition c.args.self.now.limits.level_comparisons ∷ levels (c.args.before + 1) ∷ below in
    level-goes _ _ c.args.at c.args.before below (yes c.has.ensures.is c.if-not-has.false) c.if-before-self.false
    ∙ c.in_ok-within_at.ensures.reads 0 (within ∷ rest) ∙ c.in_ok-within.ensures.reads rest
    ∙ (rw c.in_ok-within-2.ensures.ok.1 at (c.level_filter.ensures.reads c.in_ok-within._count (c.args.before + 1) below))

pub returns-clause-later : goal.returns-clause-later
returns-clause-later c =
    let later = rw c.in_ok-within-2.ensures.ok.1 at c.level_filter.ensures.later in
    (omega (arith, later.0, c.in_ok-within.ensures.later, c.in_ok-within_at.ensures.next), later.1)

pub returns-clause-is : goal.returns-clause-is
returns-clause-is c =
    level-parts (yes c.has.ensures.is c.if-not-has.false) c.in_ok-within_at.ensures.is c.in_ok-within_at.ensures.next.0
    (subst (λ v. IsLevelWithin c.args.self.now.text.now c.args.self.now.lexemes.now c.in_ok-within_at.within_at (condition_tree v) c.in_ok-within.filter_at)
    (sym c.in_ok-within-2.ensures.ok.0) c.in_ok-within.ensures.is)
    (rw c.in_ok-within-2.ensures.ok.1 at c.level_filter.ensures.begins) (rw c.in_ok-within-2.ensures.ok.1 at c.level_filter.ensures.is)

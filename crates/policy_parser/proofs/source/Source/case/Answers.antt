use Rattle.std.proofs.Common.{◌∷◌, ◌∙◌, ◌+◌, sym, subst, arith}
use Rattle.std.proofs.lemmas.Result.{err_from_is_err_and}
use Rattle.policy_syntax.specs.SyntaxTrees.{condition_tree}
use Rattle.policy_grammar.specs.Symbols.{cases, actions}
use Rattle.policy_parser.specs.Sections.{IsGuard}
use Rattle.policy_parser.proofs.Judged.{yes, isnt, passes}
use Rattle.policy_parser.proofs.PartMoves.{case-goes, case-many, case-none}
use Rattle.policy_parser.proofs.Parts.{case-parts}
use Rattle.policy_parser.proofs.source.Source.case.Goals as goal

pub returns-then-not-has-clause-reads : goal.returns-then-not-has-clause-reads
returns-then-not-has-clause-reads c = λ below. case-none _ _ c.args.at c.args.before below (isnt c.has.ensures.is c.if-not-has.true)

pub returns-then-before-self-clause-reads : goal.returns-then-before-self-clause-reads
returns-then-before-self-clause-reads c = λ below. case-many _ _ c.args.at c.args.before below (yes c.has.ensures.is c.if-not-has.false) c.if-before-self.true

pub returns-in_err-guard-clause-reads : goal.returns-in_err-guard-clause-reads
returns-in_err-guard-clause-reads c = λ below.
    let p = err_from_is_err_and c.from_residual.result c.from_residual.ensures.1 in
    rw (p.1, p.2) (passes _ (case-goes _ _ c.args.at c.args.before below (yes c.has.ensures.is c.if-not-has.false) (omega (arith, c.if-before-self.false))) (c.in_err-guard.ensures.reads (actions 0 ∷ cases (c.args.before + 1) ∷ below)))

pub returns-in_err-guard-2-clause-reads : goal.returns-in_err-guard-2-clause-reads
returns-in_err-guard-2-clause-reads c = λ below.
    let p = err_from_is_err_and c.from_residual-in_err-guard-2.result c.from_residual-in_err-guard-2.ensures.1 in
    rw (p.1, p.2)
    (passes _
    (case-goes _ _ c.args.at c.args.before below (yes c.has.ensures.is c.if-not-has.false) (omega (arith, c.if-before-self.false))
    ∙ c.in_ok-guard.ensures.reads (actions 0 ∷ cases (c.args.before + 1) ∷ below))
    (rw c.in_err-guard-2.ensures.err at (c.actions.ensures.reads (cases (c.args.before + 1) ∷ below))))

pub returns-clause-reads : goal.returns-clause-reads
returns-clause-reads c = λ below.
    case-goes _ _ c.args.at c.args.before below (yes c.has.ensures.is c.if-not-has.false) (omega (arith, c.if-before-self.false))
    ∙ c.in_ok-guard.ensures.reads (actions 0 ∷ cases (c.args.before + 1) ∷ below)
    ∙ (rw c.in_ok-guard-2.ensures.ok.1 at (c.actions.ensures.reads (cases (c.args.before + 1) ∷ below)))

pub returns-clause-later : goal.returns-clause-later
returns-clause-later c =
    let later = rw c.in_ok-guard-2.ensures.ok.1 at c.actions.ensures.later in
    (omega (arith, later.0, c.in_ok-guard.ensures.later), omega (arith, later.1))

pub returns-clause-is : goal.returns-clause-is
returns-clause-is c =
    case-parts c.in_ok-guard-2.put (yes c.has.ensures.is c.if-not-has.false)
    (subst (λ g. IsGuard c.args.self.now.text.now c.args.self.now.lexemes.now (c.args.at + 1) (condition_tree g) c.in_ok-guard.sets_at)
    (sym c.in_ok-guard-2.ensures.ok.0) c.in_ok-guard.ensures.is)
    (rw c.in_ok-guard-2.ensures.ok.1 at c.actions.ensures.is) (rw c.in_ok-guard-2.ensures.ok.1 at c.actions.ensures.puts)

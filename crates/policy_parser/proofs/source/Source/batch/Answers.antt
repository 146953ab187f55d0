use Rattle.std.proofs.Common.{◌+◌, ◌∷◌, ◌∙◌, sym, subst}
use Rattle.std.proofs.lemmas.Result.{err_from_is_err_and}
use Rattle.policy_syntax.specs.SyntaxTrees.{condition_tree}
use Rattle.policy_grammar.specs.declared.terminal.Terminal.TheVariants.{Limit, Number}
use Rattle.policy_grammar.specs.Conditions.{IsCondition}
use Rattle.policy_grammar.specs.Symbols.{the}
use Rattle.policy_grammar.specs.Policies.{batch_none}
use Rattle.policy_parser.proofs.Judged.{yes, isnt, passes}
use Rattle.policy_parser.proofs.PartMoves.{batch-over, batch-goes}
use Rattle.policy_parser.proofs.Whole.{batch-parts}
use Rattle.policy_parser.proofs.source.Source.batch.Goals as goal

pub returns-then-not-has-clause-is : goal.returns-then-not-has-clause-is
returns-then-not-has-clause-is c = batch_none

pub returns-then-not-has-clause-reads : goal.returns-then-not-has-clause-reads
returns-then-not-has-clause-reads c = λ below. batch-over _ _ c.args.at below (isnt c.has.ensures.is c.if-not-has.true)

pub returns-in_err-condition-clause-reads : goal.returns-in_err-condition-clause-reads
returns-in_err-condition-clause-reads c = λ below.
    let p = err_from_is_err_and c.from_residual.result c.from_residual.ensures.1 in
    rw (p.1, p.2)
    (passes _ (batch-goes _ _ c.args.at below (yes c.has.ensures.is c.if-not-has.false))
    (c.in_err-condition.ensures.reads (the Limit ∷ the Number ∷ below)))

pub returns-in_err-condition-2-clause-reads : goal.returns-in_err-condition-2-clause-reads
returns-in_err-condition-2-clause-reads c = λ below.
    let p = err_from_is_err_and c.from_residual-in_err-condition-2.result c.from_residual-in_err-condition-2.ensures.1 in
    rw (p.1, p.2)
    (passes _ (batch-goes _ _ c.args.at below (yes c.has.ensures.is c.if-not-has.false)
    ∙ c.in_ok-condition.ensures.reads (the Limit ∷ the Number ∷ below))
    (rw c.in_err-condition-2.ensures.err at (c.limit.ensures.reads c.in_ok-condition._count below)))

pub returns-clause-reads : goal.returns-clause-reads
returns-clause-reads c = λ below.
    batch-goes _ _ c.args.at below (yes c.has.ensures.is c.if-not-has.false)
    ∙ c.in_ok-condition.ensures.reads (the Limit ∷ the Number ∷ below)
    ∙ (rw c.in_ok-condition-2.ensures.ok.1 at (c.limit.ensures.reads c.in_ok-condition._count below))

pub returns-clause-is : goal.returns-clause-is
returns-clause-is c =
    let next = rw c.in_ok-condition-2.ensures.ok.1 at c.limit.ensures.next in
    batch-parts (yes c.has.ensures.is c.if-not-has.false)
    (subst (λ v. IsCondition c.args.self.now.text.now c.args.self.now.lexemes.now (c.args.at + 1) (condition_tree v) c.in_ok-condition.word_at)
    (sym c.in_ok-condition-2.ensures.ok.0) c.in_ok-condition.ensures.is)
    (rw c.in_ok-condition-2.ensures.ok.1 at c.limit.ensures.begins) (rw c.in_ok-condition-2.ensures.ok.1 at c.limit.ensures.is)
    (rw c.in_ok-condition-2.ensures.ok.1 at c.limit.ensures.value) next.0

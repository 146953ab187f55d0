use Rattle.std.proofs.Common.{◌∷◌, ◌∙◌, ◌+◌}
use Rattle.std.proofs.lemmas.Result.{err_from_is_err_and}
use Rattle.policy_grammar.specs.Symbols.{keys}
use Rattle.policy_grammar.specs.Orders.{key_preferring}
use Rattle.policy_grammar.proofs.CompleteOrders.{keys-anew}
use Rattle.policy_parser.proofs.Judged.{passes}
use Rattle.policy_parser.proofs.Moves.{prefer-goes, prefer-many}
use Rattle.policy_parser.proofs.source.Source.preference.Goals as goal

pub returns-then-before-most-clause-reads : goal.returns-then-before-most-clause-reads
returns-then-before-most-clause-reads c = λ below. prefer-many _ _ c.args.at c.args.most c.args.before below c.requires.begins c.if-before-most.true

pub returns-in_err-condition-clause-reads : goal.returns-in_err-condition-clause-reads
returns-in_err-condition-clause-reads c = λ below.
    let p = err_from_is_err_and c.from_residual.result c.from_residual.ensures.1 in
    rw (p.1, p.2)
    (passes _ (prefer-goes _ _ c.args.at c.args.most c.args.before below c.requires.begins c.if-before-most.false)
    (c.in_err-condition.ensures.reads (keys c.args.most (c.args.before + 1) ∷ below)))

pub returns-clause-is : goal.returns-clause-is
returns-clause-is c = key_preferring c.requires.begins c.in_ok-condition.ensures.is

pub returns-clause-reads : goal.returns-clause-reads
returns-clause-reads c = λ below.
    prefer-goes _ _ c.args.at c.args.most c.args.before below c.requires.begins c.if-before-most.false
    ∙ c.in_ok-condition.ensures.reads (keys c.args.most (c.args.before + 1) ∷ below)
    ∙ keys-anew _ c.args.self.now.text.now _ c.in_ok-condition.next c.in_ok-condition._count c.args.most (c.args.before + 1) below

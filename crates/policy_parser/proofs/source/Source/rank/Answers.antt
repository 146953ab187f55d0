use Rattle.std.proofs.Common.{◌∷◌, ◌∙◌, ◌+◌}
use Rattle.std.proofs.lemmas.Result.{err_from_is_err_and}
use Rattle.policy_grammar.specs.Orders.{key_ranked}
use Rattle.policy_grammar.specs.Symbols.{keys}
use Rattle.policy_parser.proofs.Judged.{passes}
use Rattle.policy_parser.proofs.Moves.{key-goes, key-many, key-none}
use Rattle.policy_parser.proofs.source.Source.rank.Goals as goal

pub returns-in-None-clause-reads : goal.returns-in-None-clause-reads
returns-in-None-clause-reads c = λ below. key-none _ _ c.args.at c.args.most c.args.before below c.in-None.ensures.none c.requires.ranks

pub returns-then-before-most-clause-reads : goal.returns-then-before-most-clause-reads
returns-then-before-most-clause-reads c = λ below.
    key-many _ _ c.args.at c.args.most c.args.before below c.in-Some.greatest c.in-Some.ensures.some c.if-before-most.true

pub returns-in_err-value-clause-reads : goal.returns-in_err-value-clause-reads
returns-in_err-value-clause-reads c = λ below.
    let p = err_from_is_err_and c.from_residual.result c.from_residual.ensures.1 in
    rw (p.1, p.2)
    (passes _ (key-goes _ _ c.args.at c.args.most c.args.before below c.in-Some.greatest c.in-Some.ensures.some c.if-before-most.false)
    (c.in_err-value.ensures.reads 0 (keys c.args.most (c.args.before + 1) ∷ below)))

pub returns-clause-is : goal.returns-clause-is
returns-clause-is c = key_ranked c.in-Some.greatest c.in-Some.ensures.some c.in_ok-value.ensures.is

pub returns-clause-reads : goal.returns-clause-reads
returns-clause-reads c = λ below.
    key-goes _ _ c.args.at c.args.most c.args.before below c.in-Some.greatest c.in-Some.ensures.some c.if-before-most.false
    ∙ c.in_ok-value.ensures.reads 0 (keys c.args.most (c.args.before + 1) ∷ below)

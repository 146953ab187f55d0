use Rattle.std.proofs.Common.{◌∷◌, eq-eqb, refl}
use Rattle.policy_grammar.specs.Terminals.{code}
use Rattle.policy_grammar.specs.Symbols.{the}
use Rattle.policy_grammar.proofs.Steps.{go-stuck}
use Rattle.policy_grammar.proofs.CompleteExpressions.{the-read}
use Rattle.policy_parser.proofs.Judged.{yes, isnt}
use Rattle.policy_parser.proofs.source.Source.expect.Goals as goal

pub returns-then-has-clause-reads : goal.returns-then-has-clause-reads
returns-then-has-clause-reads c = λ count below.
    the-read _ c.args.self.now.text.now _ c.args.at count below c.args.terminal (yes c.has.ensures.is c.if-has.true) c.requires.real
    (eq-eqb (code c.args.terminal) (code c.args.terminal) refl)

pub returns-else-has-clause-reads : goal.returns-else-has-clause-reads
returns-else-has-clause-reads c = λ count below.
    go-stuck _ _ c.args.at count (the c.args.terminal ∷ below) refl (rw (isnt c.has.ensures.is c.if-has.false) refl)

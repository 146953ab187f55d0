use Rattle.std.proofs.Common.{sym}
use Rattle.policy_syntax.specs.declared.syntax.Syntax.{Syntax}
use Rattle.language_tests.proofs.AgainLemmas.{parsed}
use Rattle.language_tests.proofs.reading_again.read_tokens.Goals as goal

pub returns-in-Ok-clause-same : goal.returns-in-Ok-clause-same
returns-in-Ok-clause-same c = λ tree within. sym (c.in-Ok.ensures.only tree within.is)

pub no_syntax-requires : goal.no_syntax-requires
no_syntax-requires c = parsed Syntax c.in-Err.fault (c.in-Err.ensures.reads c.requires.within.0 c.requires.within.1)

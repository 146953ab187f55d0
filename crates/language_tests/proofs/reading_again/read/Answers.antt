use Rattle.language_tests.proofs.AgainLemmas.{has-syntax, lexed}
use Rattle.language_tests.proofs.reading_again.read.Goals as goal

pub read_tokens-requires-clause-within : goal.read_tokens-requires-clause-within
read_tokens-requires-clause-within c =
    (c.requires.0, has-syntax c.requires.0 c.args.text.now c.in-Ok.tokens c.as_slice.result.now c.requires.1 c.in-Ok.ensures.reads c.as_slice.ensures.items)

pub no_tokens-requires : goal.no_tokens-requires
no_tokens-requires c = lexed c.requires.0 c.args.text.now c.in-Err.fault c.requires.1 c.in-Err.ensures.reads

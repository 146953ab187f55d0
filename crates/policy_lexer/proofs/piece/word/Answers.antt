use Rattle.std.proofs.Common.{refl}
use Rattle.policy_lexer.proofs.Firsts.{word_is_first}
use Rattle.policy_lexer.proofs.piece.word.Goals as goal

pub returns-then-size-gt-MAX_NAME_BYTES-clause-fault :
    goal.returns-then-size-gt-MAX_NAME_BYTES-clause-fault
returns-then-size-gt-MAX_NAME_BYTES-clause-fault c =
    (refl, (c.word_size-size.result, rw c.word_size-size.ensures (word_is_first _ c.requires.some c.requires.letter), c.if-size-gt-MAX_NAME_BYTES.true))

pub returns-clause-step : goal.returns-clause-step
returns-clause-step c =
    (rw c.word_size-size.ensures (word_is_first _ c.requires.some c.requires.letter), c.if-size-gt-MAX_NAME_BYTES.false)

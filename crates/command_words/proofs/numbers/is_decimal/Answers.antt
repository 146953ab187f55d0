use Rattle.std.proofs.Common.{arith}
use Rattle.std.proofs.lemmas.Bool.Decides.{nat_tests}
use Rattle.command_words.proofs.numbers.is_decimal.Goals as goal

pub returns-then-word-le-MAX_WORD_DIGITS : goal.returns-then-word-le-MAX_WORD_DIGITS
returns-then-word-le-MAX_WORD_DIGITS c = grind (arith, nat_tests)

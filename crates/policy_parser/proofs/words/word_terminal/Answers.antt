-- The table of the code is that of the definition, and a policy's words are its last ones.
use Rattle.std.proofs.Common.{◌∙◌, sym, ap}
use Rattle.policy_grammar.specs.Lexemes.{reserved_words, level_words, word_terminal_in}
use Rattle.policy_parser.proofs.words.word_terminal.Goals as goal

pub returns-in-Policies : goal.returns-in-Policies
unfolding reserved_words
returns-in-Policies c = c.terminal_among.ensures ∙ ap (λ l. word_terminal_in l c.args.word.now) (sym c.in-Policies.is)

pub returns-in-LevelTexts : goal.returns-in-LevelTexts
unfolding reserved_words level_words
returns-in-LevelTexts c = c.terminal_among-in-LevelTexts.ensures ∙ ap (λ l. word_terminal_in l c.args.word.now) (sym c.in-LevelTexts.is)

use Rattle.policy_parser.specs.Answers.{LiesIn}
use Rattle.policy_grammar.specs.Lexemes.{lexeme_in}
use Rattle.policy_parser.proofs.Lexed.{all-at}
use Rattle.policy_parser.proofs.words.lexemes.Goals as goal

pub lexeme-requires : goal.lexeme-requires
lexeme-requires c = record { lies = all-at (LiesIn c.args.text.now) (lexeme_in c.args.language c.args.text.now) c.args.tokens.now c.tokens.at _ c.requires.lie c.tokens-test.true }

use Rattle.std.proofs.Common.{arith}
use Rattle.policy_grammar.specs.declared.language.Language.TheVariants.{LevelTexts}
use Rattle.policy_parser.proofs.Lexed.{first-lies, tokens-lie}
use Rattle.policy_parser.proofs.reading.language_of.Goals as goal

pub is_levels-requires : goal.is_levels-requires
is_levels-requires c = record {
  lies = first-lies LevelTexts c.args.text.now c.args.tokens.now c.in-Some.first.now (tokens-lie LevelTexts c.args.text.now c.requires.spells (omega arith))
      c.in-Some.ensures.lookup.3.0 c.in-Some.ensures.lookup.1;
}

use Rattle.std.proofs.Common.{◌∙◌, length, sym, ap, subst, arith, All}
use Rattle.policy_syntax.specs.declared.levels.LevelSyntax.{LevelSyntax}
use Rattle.policy_syntax.specs.LevelTrees.{LevelSyntaxTree, level_syntax_tree}
use Rattle.policy_grammar.specs.declared.language.Language.TheVariants.{LevelTexts}
use Rattle.policy_grammar.specs.declared.limits.TheConstants.{POLICY_LIMITS}
use Rattle.policy_grammar.specs.LevelBreaks.{breaks_level_text}
use Rattle.policy_grammar.specs.Lexemes.{lexeme_in, lexemes_in}
use Rattle.policy_grammar.specs.Machine.{level_start}
use Rattle.policy_grammar.specs.Levels.{IsLevels}
use Rattle.policy_grammar.proofs.Languages.{level_texts}
use Rattle.policy_grammar.proofs.OneLevels.{level_text-one}
use Rattle.policy_parser.specs.Answers.{LiesIn}
use Rattle.policy_parser.proofs.Lexed.{tokens-lie, tokens-few, map-length}
use Rattle.policy_parser.proofs.Exactly.{within-exact, only-exact, faults-exact, reads-exact}
use Rattle.policy_parser.proofs.reading.parse_levels.Goals as goal

pub lexemes-requires-clause-lie : goal.lexemes-requires-clause-lie
lexemes-requires-clause-lie c = tokens-lie LevelTexts c.args.text.now c.requires.spells (omega arith)

pub lexemes-requires-clause-few : goal.lexemes-requires-clause-few
lexemes-requires-clause-few c = let few = tokens-few c.args.text.now c.requires.spells in omega (arith, few, c.requires.small)

pub invariant_of-source : goal.invariant_of-source
invariant_of-source c =
    let same = c.as_slice.ensures.value ∙ c.in_ok-lexemes.ensures.are in
    let few = tokens-few c.args.text.now c.requires.spells in
    let size = ap length same ∙ map-length (lexeme_in LevelTexts c.args.text.now) c.args.tokens.now in
    record {
      few = omega (arith, few, size, c.requires.small);
      words = subst (All (LiesIn c.args.text.now)) (sym same) (tokens-lie LevelTexts c.args.text.now c.requires.spells (omega arith));
    }

pub returns-clause-syntax : goal.returns-clause-syntax
returns-clause-syntax c =
    within-exact POLICY_LIMITS c.args.text.now LevelSyntaxTree (IsLevels c.args.text.now) (breaks_level_text POLICY_LIMITS) (level_start POLICY_LIMITS)
    (level_texts POLICY_LIMITS c.args.text.now) LevelSyntax level_syntax_tree _ (lexemes_in LevelTexts c.args.text.now c.args.tokens.now)
    (c.as_slice.ensures.value ∙ c.in_ok-lexemes.ensures.are) c.level_text.result
    c.level_text.ensures.is c.level_text.ensures.reads

pub returns-clause-only : goal.returns-clause-only
returns-clause-only c =
    only-exact POLICY_LIMITS c.args.text.now LevelSyntaxTree (IsLevels c.args.text.now) (breaks_level_text POLICY_LIMITS) (level_start POLICY_LIMITS)
    (level_texts POLICY_LIMITS c.args.text.now) LevelSyntax level_syntax_tree _ (lexemes_in LevelTexts c.args.text.now c.args.tokens.now)
    (c.as_slice.ensures.value ∙ c.in_ok-lexemes.ensures.are) c.level_text.result
    (λ us s t is also. level_text-one c.args.text.now us is also) c.level_text.ensures.is

pub returns-clause-fault : goal.returns-clause-fault
returns-clause-fault c =
    faults-exact POLICY_LIMITS c.args.text.now LevelSyntaxTree (IsLevels c.args.text.now) (breaks_level_text POLICY_LIMITS) (level_start POLICY_LIMITS)
    (level_texts POLICY_LIMITS c.args.text.now) LevelSyntax level_syntax_tree _ (lexemes_in LevelTexts c.args.text.now c.args.tokens.now)
    (c.as_slice.ensures.value ∙ c.in_ok-lexemes.ensures.are) c.level_text.result
    c.level_text.ensures.reads

pub returns-clause-reads : goal.returns-clause-reads
returns-clause-reads c =
    reads-exact POLICY_LIMITS c.args.text.now LevelSyntaxTree (IsLevels c.args.text.now) (breaks_level_text POLICY_LIMITS) (level_start POLICY_LIMITS)
    (level_texts POLICY_LIMITS c.args.text.now) LevelSyntax level_syntax_tree _ (lexemes_in LevelTexts c.args.text.now c.args.tokens.now)
    (c.as_slice.ensures.value ∙ c.in_ok-lexemes.ensures.are) c.level_text.result
    c.level_text.ensures.reads

-- What the reader's steps give.
use Rattle.std.proofs.Common.{◌≡◌, ℕ, ◌≤◌, List, length, Result, Ok, Err, IfOk, IfErr, sym, arith}
use Rattle.policy_lexer.specs.declared.token.Token.{Token}
use Rattle.sched_base.specs.declared.limits.TheConstants.{MAX_POLICY_BYTES}
use Rattle.policy_lexer.specs.declared.fault.LexFault.{LexFault}
use Rattle.policy_lexer.specs.Faults.{IsFault}
use Rattle.policy_lexer.specs.Tokens.{SpellsTokens}
use Rattle.policy_grammar.specs.declared.fault.ParseFault.{ParseFault}
use Rattle.policy_grammar.specs.declared.limits.TheConstants.{POLICY_LIMITS}
use Rattle.policy_grammar.specs.declared.language.Language.TheVariants.{Policies, LevelTexts}
use Rattle.policy_grammar.specs.Correct.{IsLevelTextWithin, IsWithin}
use Rattle.policy_grammar.specs.Lexemes.{language_of, lexeme_in, lexemes_in, policy_lexemes}
use Rattle.policy_parser.proofs.Lexed.{map-length, tokens-few}
use Rattle.policy_tree.specs.declared.typed.Policy.{Policy}
use Rattle.policy_tree.specs.Meaning.{Meaning, meaning_of}
use Rattle.policy_syntax.specs.LevelTrees.{LevelSyntaxTree}
use Rattle.policy_syntax.specs.SyntaxTrees.{SyntaxTree}
use Rattle.policy_types.specs.declared.fault.TypeFault.{TypeFault}
use Rattle.policy_types.specs.Correct.{IsLeast, IsOfGrammar, IsOfLevelGrammar}
use Rattle.policy_types.specs.Faults.{IsFirst}
use Rattle.policy_reader.specs.declared.fault.PolicyFault.{PolicyFault}
use Rattle.policy_reader.specs.declared.fault.PolicyFault.TheVariants.{Broken, Memory}
use Rattle.policy_reader.specs.declared.fault.TextFault.{TextFault}
use Rattle.policy_reader.specs.Answers.{IsFaultUnlessMemory, IsReadUnlessMemory, IsRefusedUnlessMemory}
use Rattle.policy_reader.specs.Faults.{HasFault, no_tokens, no_syntax, no_policy}
use Rattle.policy_reader.specs.Languages.{TextSyntax, IsFaultOf, rule_faults}
use Rattle.policy_reader.specs.Spelled.{SpellsPolicy, SpellsSyntax}
use Rattle.policy_reader.specs.Told.{lex_fault, offset_of, parse_fault, told_of, type_fault}
use Rattle.policy_reader.proofs.OneFault.{one_fault, one_policy, never_both}

-- the syntax of a text is one that the grammar has
pub of_grammar : (text : List ℕ) (tokens : List Token) (s : SyntaxTree) → length text ≤ MAX_POLICY_BYTES → SpellsTokens text tokens →
    IsWithin POLICY_LIMITS text (policy_lexemes text tokens) s → IsOfGrammar s
of_grammar text tokens s small spells is =
    let few = tokens-few text spells in
    let size = map-length (lexeme_in Policies text) tokens in
    record { text = text; tokens = policy_lexemes text tokens; is = is; few = omega (arith, few, size, small) }

pub of_level_grammar : (text : List ℕ) (tokens : List Token) (s : LevelSyntaxTree) → length text ≤ MAX_POLICY_BYTES → SpellsTokens text tokens →
    IsLevelTextWithin POLICY_LIMITS text (lexemes_in LevelTexts text tokens) s → IsOfLevelGrammar s
of_level_grammar text tokens s small spells is =
    let few = tokens-few text spells in
    let size = map-length (lexeme_in LevelTexts text) tokens in
    record { text = text; tokens = lexemes_in LevelTexts text tokens; is = is; few = omega (arith, few, size, small) }

-- a fault that is told is the text's
pub told_of_tokens : (text : List ℕ) (answer : PolicyFault) (found : LexFault) → IsFault text found → told_of answer ≡ lex_fault found →
    IsFaultUnlessMemory text answer
told_of_tokens text (Broken fault) found is told = no_tokens found is (sym told)
told_of_tokens text Memory found is told = tt

pub told_of_syntax : (text : List ℕ) (tokens : List Token) (answer : PolicyFault) (found : ParseFault) → SpellsTokens text tokens →
    IsFaultOf (language_of text tokens) text tokens found → told_of answer ≡ parse_fault (offset_of text tokens) found →
    IsFaultUnlessMemory text answer
told_of_syntax text tokens (Broken fault) found spells is told = no_syntax tokens found spells is (sym told)
told_of_syntax text tokens Memory found spells is told = tt

pub told_of_policy : (text : List ℕ) (tokens : List Token) (s : TextSyntax) (answer : PolicyFault) (found : TypeFault) → SpellsSyntax text tokens s →
    IsFirst (rule_faults s) found → IsLeast (rule_faults s) found → told_of answer ≡ type_fault (offset_of text tokens) found →
    IsFaultUnlessMemory text answer
told_of_policy text tokens s (Broken fault) found has first least told = no_policy tokens s found has first least (sym told)
told_of_policy text tokens s Memory found has first least told = tt

-- the answer is the only one
pub reads_it : (text : List ℕ) (result : Result Policy PolicyFault) (p : Meaning) →
    IfOk result (λ policy. SpellsPolicy text (meaning_of policy)) → IfErr result (IsFaultUnlessMemory text) →
    SpellsPolicy text p → IsReadUnlessMemory p result
reads_it text (Ok policy) p ok err spells = one_policy text (meaning_of policy) p ok spells
reads_it text (Err (Broken fault)) p ok err spells = never_both text p fault spells err
reads_it text (Err Memory) p ok err spells = tt

pub refuses_it : (text : List ℕ) (result : Result Policy PolicyFault) (fault : TextFault) →
    IfOk result (λ policy. SpellsPolicy text (meaning_of policy)) → IfErr result (IsFaultUnlessMemory text) →
    HasFault text fault → IsRefusedUnlessMemory fault result
refuses_it text (Ok policy) fault ok err has = never_both text (meaning_of policy) fault ok has
refuses_it text (Err (Broken other)) fault ok err has = one_fault text other fault err has
refuses_it text (Err Memory) fault ok err has = tt

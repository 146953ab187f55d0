-- The syntax of a text in its language, the faults of its tokens, the rules that it breaks and the policy that it is.
use Rattle.std.specs.Prelude.{ℕ, ◌≡◌, List}
use Rattle.level_policy.specs.Compiled.{compiled}
use Rattle.policy_lexer.specs.declared.token.Token.{Token}
use Rattle.policy_grammar.specs.declared.fault.ParseFault.{ParseFault}
use Rattle.policy_grammar.specs.declared.language.Language.{Language}
use Rattle.policy_grammar.specs.declared.language.Language.TheVariants.{Policies, LevelTexts}
use Rattle.policy_grammar.specs.declared.limits.TheConstants.{POLICY_LIMITS}
use Rattle.policy_grammar.specs.Correct.{IsLevelTextWithin, IsLevelTextFault, IsParseFault, IsWithin}
use Rattle.policy_grammar.specs.Lexemes.{language_of, lexemes_in, policy_lexemes}
use Rattle.policy_syntax.specs.LevelTrees.{LevelSyntaxTree}
use Rattle.policy_syntax.specs.SyntaxTrees.{SyntaxTree}
use Rattle.policy_tree.specs.Meaning.{Meaning}
use Rattle.policy_types.specs.declared.fault.TypeFault.{TypeFault}
use Rattle.policy_types.specs.Levels.{level_text_faults, level_text_meaning}
use Rattle.policy_types.specs.Policies.{policy_faults, policy_meaning}

-- the syntax of a policy, or that of a level text
pub data TextSyntax : Type 0 where
  of_policy : SyntaxTree → TextSyntax
  of_levels : LevelSyntaxTree → TextSyntax

-- the tokens of the text have this syntax, within the limits, and it is of the text's language
abbrev pub IsTextSyntax : List ℕ → List Token → TextSyntax → Type 0
IsTextSyntax text tokens (of_policy s) =
    (language_of text tokens ≡ Policies) × IsWithin POLICY_LIMITS text (policy_lexemes text tokens) s
IsTextSyntax text tokens (of_levels s) =
    (language_of text tokens ≡ LevelTexts) × IsLevelTextWithin POLICY_LIMITS text (lexemes_in LevelTexts text tokens) s

-- the fault of the tokens in that language
abbrev pub IsFaultOf : Language → List ℕ → List Token → ParseFault → Type 0
IsFaultOf Policies text tokens fault = IsParseFault POLICY_LIMITS text (policy_lexemes text tokens) fault
IsFaultOf LevelTexts text tokens fault = IsLevelTextFault POLICY_LIMITS text (lexemes_in LevelTexts text tokens) fault

-- the rules of names, ranges and phases that a syntax breaks
abbrev pub rule_faults : TextSyntax → List TypeFault
rule_faults (of_policy s) = policy_faults s
rule_faults (of_levels s) = level_text_faults s

-- the policy that it is. That of a level text chooses as its levels say
abbrev pub meant : TextSyntax → Meaning
meant (of_policy s) = policy_meaning s
meant (of_levels s) = compiled (level_text_meaning s)

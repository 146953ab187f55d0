-- The printed text of a syntax, and what it is a text of.
use Rattle.std.specs.Prelude.{ℕ, List, [], ◌∷◌, ◌++◌}
use Rattle.std.specs.List.{join_with_byte}
use Rattle.policy_syntax.specs.SyntaxTrees.{SyntaxTree}
use Rattle.policy_lexer.specs.declared.token.Token.{Token}
use Rattle.policy_lexer.specs.Tokens.{SpellsTokens}
use Rattle.policy_grammar.specs.declared.limits.TheConstants.{POLICY_LIMITS}
use Rattle.policy_grammar.specs.Lexemes.{policy_lexemes}
use Rattle.policy_grammar.specs.Correct.{IsWithin}
use Rattle.policy_printer.specs.PolicyTexts.{policy_texts}

-- the tokens with one space between each two, and a line feed at the end
abbrev pub printed : SyntaxTree → List ℕ
printed syntax = join_with_byte 32 (policy_texts syntax) ++ (10 ∷ [])

-- the text has tokens, and the grammar has them with this syntax, within the limits
pub record IsTextOf (text : List ℕ) (syntax : SyntaxTree) : Type 0 where
  pub tokens : List Token
  pub spells : SpellsTokens text tokens
  pub is : IsWithin POLICY_LIMITS text (policy_lexemes text tokens) syntax

-- the printed text of a syntax that some text has is again a text of it, its places included
abbrev pub IsReadAgain : Type 0
IsReadAgain = (text : List ℕ) (syntax : SyntaxTree) → IsTextOf text syntax → IsTextOf (printed syntax) syntax

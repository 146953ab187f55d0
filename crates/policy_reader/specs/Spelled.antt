-- Which policy a text spells.
use Rattle.std.specs.Prelude.{ℕ, ◌≡◌, List, []}
use Rattle.policy_lexer.specs.declared.token.Token.{Token}
use Rattle.policy_lexer.specs.Tokens.{SpellsTokens}
use Rattle.policy_tree.specs.Meaning.{Meaning}
use Rattle.policy_reader.specs.Languages.{TextSyntax, IsTextSyntax, rule_faults, meant}

-- the text has these tokens, and they have this syntax, within the limits of the text's language
pub record SpellsSyntax (text : List ℕ) (tokens : List Token) (syntax : TextSyntax) : Type 0 where
  pub spells : SpellsTokens text tokens
  pub is : IsTextSyntax text tokens syntax

-- the text has a syntax that breaks no rule of names, ranges and phases, and its policy is this one
pub record SpellsPolicy (text : List ℕ) (p : Meaning) : Type 0 where
  pub tokens : List Token
  pub syntax : TextSyntax
  pub has : SpellsSyntax text tokens syntax
  pub keeps : rule_faults syntax ≡ []
  pub means : meant syntax ≡ p

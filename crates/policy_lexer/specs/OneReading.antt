-- A text has its tokens in one way.
use Rattle.std.specs.Prelude.{ℕ, ◌≡◌, List}
use Rattle.policy_lexer.specs.declared.token.Token.{Token}
use Rattle.policy_lexer.specs.Tokens.{SpellsTokens}

-- no text has two lists of tokens that differ
abbrev pub HasOneReading : Type 0
HasOneReading = (text : List ℕ) (one other : List Token) → SpellsTokens text one → SpellsTokens text other → one ≡ other

-- The tokens of a text.
use Rattle.std.specs.Prelude.{ℕ, ◌+◌, ◌^◌, ◌≡◌, ◌<◌, ◌≤◌, List, [], ◌∷◌, length, drop}
use Rattle.sched_base.specs.declared.limits.TheConstants.{MAX_NAME_BYTES}
use Rattle.policy_lexer.specs.declared.token.Token.{Token}
use Rattle.policy_lexer.specs.declared.token.TokenKind.{TokenKind}
use Rattle.policy_lexer.specs.declared.token.TokenKind.TheVariants.{Word, Number, Symbol}
use Rattle.policy_lexer.specs.Pieces.{gap, token, IsFirstPiece}

-- a token of so many bytes keeps the limits on words and numbers
abbrev pub KeepsLimits : TokenKind → ℕ → Type 0
KeepsLimits Word size = size ≤ MAX_NAME_BYTES
KeepsLimits (Number value) size = value < 2 ^ 64
KeepsLimits (Symbol symbol) size = Unit {0}

-- reading on from one place of the text, with these tokens, comes to another: the longest piece at each place
-- is taken, and gaps alone lie between the tokens
pub data Reads (text : List ℕ) : ℕ → List Token → ℕ → Type 0 where
  reads_nothing : {at : ℕ} → Reads text at [] at
  reads_gap : {at to : ℕ} {tokens : List Token} (size : ℕ) →
      IsFirstPiece (drop at text) size gap → Reads text (at + size) tokens to → Reads text at tokens to
  reads_token : {at to : ℕ} (first : Token) {tokens : List Token} (size : ℕ) →
      first.start ≡ at → first.end ≡ at + size →
      IsFirstPiece (drop at text) size (token first.kind) → KeepsLimits first.kind size →
      Reads text (at + size) tokens to → Reads text at (first ∷ tokens) to

-- these are the tokens of the text
abbrev pub SpellsTokens : List ℕ → List Token → Type 0
SpellsTokens text tokens = Reads text 0 tokens (length text)

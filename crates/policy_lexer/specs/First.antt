-- What one step of reading finds at a place.
use Rattle.std.specs.Prelude.{ℕ, ◌^◌, ◌≡◌, ◌<◌, ◌≤◌, List, length, Some, None, slice_index, ◌==◌, false}
use Rattle.std.specs.Char.{is_ascii_alphabetic, is_ascii_digit}
use Rattle.sched_base.specs.declared.limits.TheConstants.{MAX_NAME_BYTES}
use Rattle.policy_lexer.specs.declared.token.Symbol.{Symbol}
use Rattle.policy_lexer.specs.declared.token.TokenKind.TheVariants.{Word, Number}
use Rattle.policy_lexer.specs.declared.fault.LexFault.{LexFault}
use Rattle.policy_lexer.specs.declared.fault.LexFault.TheVariants.{NotAscii, BadByte, LongName, WideNumber, Memory}
use Rattle.policy_lexer.specs.declared.piece.Step.{Step}
use Rattle.policy_lexer.specs.declared.piece.Step.TheVariants.{Gap, Token}
use Rattle.policy_lexer.specs.Bytes.{is_blank, double_symbol}
use Rattle.policy_lexer.specs.Pieces.{gap, token, IsFirstPiece, HasNoPiece}
use Rattle.policy_lexer.specs.Tokens.{KeepsLimits}

-- the step is the piece with which the text begins
abbrev pub IsStep : List ℕ → Step → Type 0
IsStep text (Gap size) = IsFirstPiece text size gap
IsStep text (Token kind size) = IsFirstPiece text size (token kind) × KeepsLimits kind size

-- how many bytes the step goes on
abbrev pub size_of_step : Step → ℕ
size_of_step (Gap size) = size
size_of_step (Token kind size) = size

-- the text, which begins at this offset of a longer one, begins with this fault
abbrev pub IsFirstFault : List ℕ → ℕ → LexFault → Type 0
IsFirstFault text at (NotAscii place) = (place ≡ at) × (128 ≤ slice_index text 0)
IsFirstFault text at (BadByte place) = (place ≡ at) × (slice_index text 0 < 128) × HasNoPiece text
IsFirstFault text at (LongName place) = (place ≡ at) ×
    ((size : ℕ) × IsFirstPiece text size (token Word) × (MAX_NAME_BYTES < size))
IsFirstFault text at (WideNumber place) = (place ≡ at)
    × ((size : ℕ) × (value : ℕ) × IsFirstPiece text size (token (Number value)) × (2 ^ 64 ≤ value))
IsFirstFault text at Memory = ⊥

-- the byte begins no word, no number, no blanks and no comment
pub record IsOther (byte : ℕ) : Type 0 where
  pub letter : is_ascii_alphabetic byte ≡ false
  pub digit : is_ascii_digit byte ≡ false
  pub blank : is_blank byte ≡ false
  pub comment : byte == 35 ≡ false

-- the text begins with this symbol of two bytes
abbrev pub HasDouble : List ℕ → Symbol → Type 0
HasDouble text symbol = (1 < length text) × (double_symbol (slice_index text 0) (slice_index text 1) ≡ Some symbol)

abbrev pub HasNoDouble : List ℕ → Type 0
HasNoDouble text = 1 < length text → double_symbol (slice_index text 0) (slice_index text 1) ≡ None

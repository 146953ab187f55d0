-- The pieces of a text: its tokens, and the gaps of blanks and comments between them.
use Rattle.std.specs.Prelude.{ℕ, ◌==◌, ◌≡◌, ◌<◌, ◌≤◌, Bool, if◌then◌else◌, List, [], ◌∷◌, length, take, Option, Some}
use Rattle.std.specs.Prelude.{None, option_map}
use Rattle.std.specs.List.{list_all}
use Rattle.std.specs.Char.{is_ascii_alphabetic, is_ascii_digit}
use Rattle.policy_lexer.specs.declared.token.TokenKind.{TokenKind}
use Rattle.policy_lexer.specs.declared.token.TokenKind.TheVariants.{Word, Number, Symbol}
use Rattle.policy_lexer.specs.Bytes.{is_word_byte, is_blank, is_comment_byte, number_of, symbol_of}

-- a run of blanks or a comment; or a token
pub data Piece : Type 0 where
  gap : Piece
  token : TokenKind → Piece

-- the piece, if all of the bytes pass the test
abbrev pub run_of : (ℕ → Bool) → List ℕ → Piece → Option Piece
run_of test bytes piece = if list_all test bytes then Some piece else None

-- the piece that the bytes spell, whatever its size: the first byte decides between the kinds
abbrev pub piece_of : List ℕ → Option Piece
piece_of [] = None
piece_of (first ∷ rest) =
    if is_ascii_alphabetic first then run_of is_word_byte (first ∷ rest) (token Word) else
    if is_ascii_digit first then run_of is_ascii_digit (first ∷ rest) (token (Number (number_of (first ∷ rest)))) else
    if is_blank first then run_of is_blank (first ∷ rest) gap else
    if first == 35 then run_of is_comment_byte (first ∷ rest) gap else
    option_map (λ symbol. token (Symbol symbol)) (symbol_of (first ∷ rest))

-- the text begins with this piece, of so many bytes, and with no longer one
pub record IsFirstPiece (text : List ℕ) (size : ℕ) (piece : Piece) : Type 0 where
  pub within : size ≤ length text
  pub spells : piece_of (take size text) ≡ Some piece
  pub longest : (more : ℕ) (other : Piece) → size < more → more ≤ length text →
      piece_of (take more text) ≡ Some other → ⊥

-- the text begins with no piece
abbrev pub HasNoPiece : List ℕ → Type 0
HasNoPiece text = (size : ℕ) (piece : Piece) → size ≤ length text → piece_of (take size text) ≡ Some piece → ⊥

-- The classes of bytes, and what a number and a symbol are in bytes.
use Rattle.std.specs.Prelude.{ℕ, ◌+◌, ◌*◌, ◌==◌, Bool, ◌||◌, ◌&&◌, if◌then◌else◌, List, [], ◌∷◌, fold, Option, Some}
use Rattle.std.specs.Prelude.{None}
use Rattle.std.specs.Char.{is_ascii_alphanumeric, digit_value}
use Rattle.std.specs.Int.{is_in_range}
use Rattle.policy_lexer.specs.declared.token.Symbol.{Symbol}
use Rattle.policy_lexer.specs.declared.token.Symbol.TheVariants.{Dot, Range, Comma, Colon, Open, Close, Begin, Finish}
use Rattle.policy_lexer.specs.declared.token.Symbol.TheVariants.{Plus, Minus, Star, Gets, Equal, Unequal, Less, AtMost}
use Rattle.policy_lexer.specs.declared.token.Symbol.TheVariants.{More, AtLeast}

-- a letter, a digit or `_`
abbrev pub is_word_byte : ℕ → Bool
is_word_byte byte = is_ascii_alphanumeric byte || byte == 95

-- a space, a tab, a line feed or a carriage return
abbrev pub is_blank : ℕ → Bool
is_blank byte = (byte == 32 || byte == 9) || (byte == 10 || byte == 13)

-- a byte that a comment goes on with: ASCII, and no control byte but a tab and a carriage return
abbrev pub is_comment_byte : ℕ → Bool
is_comment_byte byte = (byte == 9 || byte == 13) || is_in_range 32 126 byte

-- the value of decimal digits behind a number that was read before them
abbrev pub number_behind : ℕ → List ℕ → ℕ
number_behind before digits = fold (λ value digit. value * 10 + digit_value digit) before digits

-- the value of decimal digits
abbrev pub number_of : List ℕ → ℕ
number_of digits = number_behind 0 digits

-- the symbol of one byte
abbrev pub single_symbol : ℕ → Option Symbol
single_symbol byte =
    if byte == 46 then Some Dot else
    if byte == 44 then Some Comma else
    if byte == 58 then Some Colon else
    if byte == 40 then Some Open else
    if byte == 41 then Some Close else
    if byte == 123 then Some Begin else
    if byte == 125 then Some Finish else
    if byte == 43 then Some Plus else
    if byte == 45 then Some Minus else
    if byte == 42 then Some Star else
    if byte == 61 then Some Gets else
    if byte == 60 then Some Less else
    if byte == 62 then Some More else None

-- the symbol of two bytes: `..`, `==`, `!=`, `<=`, `>=`
abbrev pub double_symbol : ℕ → ℕ → Option Symbol
double_symbol first second =
    if first == 46 && second == 46 then Some Range else
    if first == 61 && second == 61 then Some Equal else
    if first == 33 && second == 61 then Some Unequal else
    if first == 60 && second == 61 then Some AtMost else
    if first == 62 && second == 61 then Some AtLeast else None

-- the symbol that the bytes are
abbrev pub symbol_of : List ℕ → Option Symbol
symbol_of [] = None
symbol_of (first ∷ []) = single_symbol first
symbol_of (first ∷ second ∷ []) = double_symbol first second
symbol_of (first ∷ second ∷ third ∷ rest) = None

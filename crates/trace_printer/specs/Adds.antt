-- What a part of the printer adds.
use Rattle.std.specs.Prelude.{ℕ, ◌≡◌, List, [], ◌∷◌, ◌++◌}
use Rattle.std.specs.List.{join_with_byte}
use Rattle.trace_printer.specs.declared.text.Text.{Text}

-- the words with a space before each
abbrev pub spaced : List (List ℕ) → List ℕ
spaced [] = []
spaced (word ∷ rest) = 32 ∷ (word ++ spaced rest)

-- the bytes have gained these words
pub record Adds (words : List (List ℕ)) (before after : List ℕ) : Type 0 where
  pub is : after ≡ before ++ spaced words

-- the text has gained them
abbrev pub Prints : List (List ℕ) → Text → Text → Type 0
Prints words before after = Adds words before.bytes.items after.bytes.items

-- the text has gained these words as the first ones of a line
abbrev pub Spelled : List (List ℕ) → Text → Text → Type 0
Spelled words before after = after.bytes.items ≡ before.bytes.items ++ join_with_byte 32 words

-- The lines of a text that is written line by line.
use Rattle.std.specs.Prelude.{◌≡◌, ℕ, ◌<◌, ◌≤◌, List, [], ◌∷◌, drop, if◌then◌else◌, length, take}
use Rattle.text_forms.specs.Cuts.{is_byte}

-- the lines of a text before which one more byte stands: it begins the first of them, or is a line of its own
abbrev pub begun_by : ℕ → List (List ℕ) → List (List ℕ)
begun_by byte [] = (byte ∷ []) ∷ []
begun_by byte (line ∷ lines) = (byte ∷ line) ∷ lines

-- the lines of a text, each with its line feed, which the last may lack
abbrev pub lines_in : List ℕ → List (List ℕ)
lines_in [] = []
lines_in (byte ∷ text) =
    if is_byte 10 byte then (byte ∷ []) ∷ lines_in text else begun_by byte (lines_in text)

-- The first line of the text has so many bytes, and the other lines are those of what stands behind it. This serves the
-- code alone.
pub record IsLineLen (text : List ℕ) (len : ℕ) : Type 0 where
  pub lines : lines_in text ≡ take len text ∷ lines_in (drop len text)
  pub some : 0 < len
  pub within : len ≤ length text

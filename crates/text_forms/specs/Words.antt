-- The words of a line.
use Rattle.std.specs.Prelude.{ℕ, ◌==◌, Bool, List, filter}
use Rattle.std.specs.List.{list_any, slice_split}
use Rattle.text_forms.specs.Lines.{has_byte}

-- the byte is one of those that part words
abbrev pub is_one_of : List ℕ → ℕ → Bool
is_one_of blanks byte = list_any (λ blank. blank == byte) blanks

-- what stands between the blanks, and before and behind them, as far as it has a byte
unfoldable pub words_of : List ℕ → List ℕ → List (List ℕ)
words_of blanks line = filter has_byte (slice_split (is_one_of blanks) line)

-- The lines of a text.
use Rattle.std.specs.Prelude.{ℕ, ◌==◌, Bool, true, false, List, [], ◌∷◌, if◌then◌else◌}
use Rattle.std.specs.List.{slice_split}

abbrev pub has_byte : List ℕ → Bool
has_byte [] = false
has_byte (byte ∷ bytes) = true

-- a line feed
abbrev pub is_feed : ℕ → Bool
is_feed byte = byte == 10

-- an empty last part is no line
abbrev pub lines_of_parts : List (List ℕ) → List (List ℕ)
lines_of_parts [] = []
lines_of_parts (part ∷ []) = if has_byte part then part ∷ [] else []
lines_of_parts (part ∷ next ∷ more) = part ∷ lines_of_parts (next ∷ more)

-- what stands before each line feed, and what stands behind the last of them where that has a byte
unfoldable pub lines_of : List ℕ → List (List ℕ)
lines_of text = lines_of_parts (slice_split is_feed text)

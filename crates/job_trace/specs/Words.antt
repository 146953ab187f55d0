-- The words of a line of a trace.
use Rattle.std.specs.Prelude.{ℕ, ◌==◌, Bool, true, false, ◌||◌, ◌&&◌, List, [], ◌∷◌, length, nat_lt}
use Rattle.std.specs.Char.{is_ascii_alphabetic, is_ascii_alphanumeric}
use Rattle.std.specs.List.{list_all}
use Rattle.sched_base.specs.declared.limits.TheConstants.{MAX_NAME_BYTES}
use Rattle.text_forms.specs.Words.{words_of}

-- a space, a tab and a carriage return
abbrev pub blanks : List ℕ
blanks = 32 ∷ 9 ∷ 13 ∷ []

unfoldable pub words : List ℕ → List (List ℕ)
words line = words_of blanks line

abbrev pub begins_comment : List ℕ → Bool
begins_comment [] = false
begins_comment (byte ∷ bytes) = byte == 35

-- the line says nothing: it has no word, or a comment begins with its first word
abbrev pub is_skipped : List (List ℕ) → Bool
is_skipped [] = true
is_skipped (first ∷ rest) = begins_comment first

-- a letter, a digit or an underscore
abbrev pub is_name_byte : ℕ → Bool
is_name_byte byte = is_ascii_alphanumeric byte || byte == 95

-- the word may name an attribute: a letter begins it, such bytes follow, and there are not too many
abbrev pub is_name : List ℕ → Bool
is_name [] = false
is_name (first ∷ rest) =
    is_ascii_alphabetic first && (list_all is_name_byte rest && nat_lt (length rest) MAX_NAME_BYTES)

-- Numbers in decimal.
use Rattle.std.specs.Prelude.{ℕ, ◌+◌, ◌*◌, ◌-◌, ◌==◌, Bool, false, ◌&&◌, List, [], ◌∷◌, length, fold, Option, Some}
use Rattle.std.specs.Prelude.{None, nat_lt, nat_le, if◌then◌else◌}
use Rattle.std.specs.Char.{is_ascii_digit}
use Rattle.std.specs.List.{list_all}
use Rattle.sched_base.specs.declared.limits.TheConstants.{MAX_DIGITS}

-- the number that decimal digits stand for
abbrev pub number_of : List ℕ → ℕ
number_of digits = fold (λ number digit. 10 * number + (digit - 48)) 0 digits

-- digits alone, one at least and not too many; zeros may lead
abbrev pub is_decimal : List ℕ → Bool
is_decimal word = nat_lt 0 (length word) && (nat_le (length word) MAX_DIGITS && list_all is_ascii_digit word)

-- a zero leads, and more follows
abbrev pub is_padded : List ℕ → Bool
is_padded [] = false
is_padded (first ∷ []) = false
is_padded (first ∷ second ∷ rest) = first == 48

-- the number that the word spells, where it spells one
unfoldable pub number_in : List ℕ → Option ℕ
number_in word = if is_decimal word then Some (number_of word) else None

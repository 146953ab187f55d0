-- The leaf of a certificate that multipliers make. Nobody who believes the contract of the decider needs these words.
use Rattle.std.specs.Prelude.{ℕ, suc, ◌==◌, if◌then◌else◌, List, [], ◌∷◌, ℤ, unsigned_abs}
use Rattle.linear_cert.specs.declared.cert.Mult.{Mult}

-- a multiplier of the row with this number
abbrev pub times_row : ℕ → ℤ → Mult
times_row number multiplier = record { row = number; by = unsigned_abs multiplier }

-- the multipliers of the rows from this number on, without those that are 0
abbrev pub multipliers_from : ℕ → List ℤ → List Mult
multipliers_from number [] = []
multipliers_from number (m ∷ mults) =
    if unsigned_abs m == 0 then multipliers_from (suc number) mults else
    times_row number m ∷ multipliers_from (suc number) mults

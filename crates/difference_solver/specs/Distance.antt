-- A distance: at most how far one value lies above another, and the rows, each times 1, whose sum says so.
use Rattle.std.specs.Prelude.{ℕ, [], ◌∷◌, ◌++◌, ℤ, pos, ◌+ℤ◌}
use Rattle.linear_cert.specs.declared.cert.Mult.{Mult}
use Rattle.difference_solver.specs.declared.distance.Distance.{Distance}

-- that of a value to itself, from no row
abbrev pub no_distance : Distance
no_distance = record { bound = pos 0; mults = [] }

-- that of one row
abbrev pub distance_of_row : ℕ → ℤ → Distance
distance_of_row number bound =
    let once : Mult = record { row = number; by = 1 } in record { bound = bound; mults = once ∷ [] }

-- one after another
abbrev pub joined : Distance → Distance → Distance
joined first second = record { bound = first.bound +ℤ second.bound; mults = first.mults ++ second.mults }

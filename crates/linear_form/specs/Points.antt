-- How many points the ranges of a system have.
use Rattle.std.specs.Prelude.{ℕ, ◌+◌, ◌*◌, ◌-ℤ◌, List, [], ◌∷◌, unsigned_abs}
use Rattle.linear_form.specs.declared.form.Bound.{Bound}

-- how many whole numbers a range has, both ends among them
abbrev pub size_of : Bound → ℕ
size_of bound = unsigned_abs (bound.hi -ℤ bound.lo) + 1

-- how many lists there are of one number from each range: without ranges one, the empty list
abbrev pub points_of : List Bound → ℕ
points_of [] = 1
points_of (bound ∷ rest) = size_of bound * points_of rest

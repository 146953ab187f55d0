-- Systems of differences (Bellman and Ford): each row bounds nothing, a variable, or the difference of two.
use Rattle.std.specs.Prelude.{◌≡◌, ◌⊎◌, List, [], ◌∷◌, All, pos, negsuc}
use Rattle.linear_form.specs.declared.form.Term.{Term}
use Rattle.linear_form.specs.declared.form.Row.{Row}

-- the variable itself
abbrev pub IsPlus : Term → Type 0
IsPlus term = term.coef ≡ pos 1

-- minus the variable
abbrev pub IsMinus : Term → Type 0
IsMinus term = term.coef ≡ negsuc 0

-- no term, a variable or minus a variable, or a variable minus another
unfoldable pub AreDifference : List Term → Type 0
AreDifference [] = Unit {0}
AreDifference (x ∷ []) = IsPlus x ⊎ IsMinus x
AreDifference (x ∷ y ∷ []) = (IsPlus x × IsMinus y) ⊎ (IsMinus x × IsPlus y)
AreDifference (x ∷ y ∷ z ∷ rest) = ⊥

-- the row is of that form
abbrev pub IsDifferenceRow : Row → Type 0
IsDifferenceRow row = AreDifference row.terms

-- each row is
abbrev pub IsDifference : List Row → Type 0
IsDifference rows = All IsDifferenceRow rows

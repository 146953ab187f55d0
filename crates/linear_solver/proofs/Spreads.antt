-- A variable that changes a row has more than one value, and a row that doesn't change isn't open.
use Rattle.std.proofs.Common.{◌≡◌, ℕ, suc, ◌*◌, ◌<◌, ◌≤◌, List, [], ◌∷◌, length, All, Option, Some, None, MatchOption, pos, ◌*ℤ◌, int_lt, unsigned_abs, inl, inr, sym, ap, ◌∙◌, refl, arith, mul-le-mul}
use Rattle.std.proofs.lemmas.Bool.{cases_Bool, cases_lt, cond-true, cond-false}
use Rattle.std.proofs.lemmas.Int.{ints}
use Rattle.std.proofs.lemmas.List.Elements.{All-head, All-tail}
use Rattle.linear_form.specs.declared.form.Term.{Term}
use Rattle.linear_form.specs.declared.form.Row.{Row}
use Rattle.linear_form.specs.declared.form.Bound.{Bound}
use Rattle.linear_form.specs.System.{IsBound, IsRow, IsTerm}
use Rattle.linear_cert.specs.Right.{range_of}
use Rattle.linear_solver.specs.Boxes.{AreFixed, HoldsPartly, IsWide, greatest, greatest_term, least, least_term, spread, width}

abbrev none : Bound
none = record { lo = pos 0; hi = pos 0 }

module _ (bounds : List Bound) (fit : All IsBound bounds) where
  pub wide_from_spread : (term : Term) → IsTerm (length bounds) term → 0 < spread bounds term → IsWide bounds term.var
  wide_from_spread term is some =
      let range = range_of bounds term.var in
      let ordered = (fit term.var none is.known).ordered in
      let apart : 0 < width range = elim (cases_lt 0 (width range)) [
        | inl above ↦ above
        | inr below ↦
            let zero_is : width range ≡ 0 = omega arith in
            absurd (omega (arith, ap (λ n. unsigned_abs term.coef * n) zero_is))
      ] in
      record { known = is.known; wide = omega (arith, ints, apart, ordered) }

  fixed_term : (term : Term) → IsTerm (length bounds) term → spread bounds term ≡ 0 → greatest_term bounds term ≡ least_term bounds term
  fixed_term term is fixed =
      let range = range_of bounds term.var in
      let ordered = (fit term.var none is.known).ordered in
      let size : 0 < unsigned_abs term.coef = grind (arith, ints, is.nonzero) in
      let narrow : width range ≡ 0 = elim (cases_lt 0 (width range)) [
        | inl above ↦ absurd (omega (arith, mul-le-mul size above, fixed))
        | inr below ↦ omega arith
      ] in
      let same : range.hi ≡ range.lo = omega (arith, ints, narrow) in
      elim (cases_Bool (int_lt (pos 0) term.coef)) [
        | inl above ↦ ap (λ x. term.coef *ℤ x) (cond-true _ range.hi range.lo above ∙ same ∙ sym (cond-true _ range.lo range.hi above))
        | inr below ↦ ap (λ x. term.coef *ℤ x) (cond-false _ range.hi range.lo below ∙ sym same ∙ sym (cond-false _ range.lo range.hi below))
      ]

  fixed_row : (terms : List Term) → All (IsTerm (length bounds)) terms → AreFixed bounds terms → greatest bounds terms ≡ least bounds terms
  fixed_row [] is fixed = refl
  fixed_row (term ∷ terms) is fixed =
      let first = fixed_term term (All-head (IsTerm (length bounds)) term terms is) (fixed 0 term (omega arith)) in
      let rest = fixed_row terms (All-tail (IsTerm (length bounds)) term terms is) (λ k d lt. fixed (suc k) d (omega arith)) in
      omega (arith, ints, first, rest)

  pub fixed_is_not_open : (row : Row) → IsRow (length bounds) row → AreFixed bounds row.terms → HoldsPartly bounds row → ⊥
  fixed_is_not_open row is fixed open' = omega (arith, ints, open'.some, open'.few, fixed_row row.terms is.terms fixed)

  pub widest_done : (terms : List Term) (found : Option ℕ) (most : ℕ) → All (λ term. spread bounds term ≤ most) terms → MatchOption found (most ≡ 0) (IsWide bounds) → MatchOption found (AreFixed bounds terms) (IsWide bounds)
  widest_done terms None most below none = λ k d lt. omega (arith, below k d lt)
  widest_done terms (Some v) most below wide = wide

-- The left side of a row lies between its least and its greatest value over a box, at every point of the box.
use Rattle.std.proofs.Common.{◌≡◌, ℕ, ◌<◌, List, [], ◌∷◌, length, get_or, All, ℤ, pos, ◌*ℤ◌, ◌≤ℤ◌, int_lt, unsigned_abs, inl, inr, ap, ◌∙◌, arith}
use Rattle.std.proofs.lemmas.Bool.{cases_Bool, cond-true, cond-false}
use Rattle.std.proofs.lemmas.Int.{ints}
use Rattle.std.proofs.lemmas.List.{length-map, get_or-map, get_or_default}
use Rattle.std.proofs.lemmas.List.Elements.{All-head, All-tail}
use borrow.Author.Differences.{same_in, product_is}
use Rattle.linear_cert.proofs.Integers.{mul_mono}
use Rattle.linear_form.specs.declared.form.Term.{Term}
use Rattle.linear_form.specs.declared.form.Row.{Row}
use Rattle.linear_form.specs.declared.form.Bound.{Bound}
use Rattle.linear_form.specs.Solution.{Solves, left_side, term_value, value_at}
use Rattle.linear_form.specs.System.{IsBound, IsTerm, IsSystem}
use Rattle.linear_cert.specs.Right.{range_of}
use Rattle.linear_solver.specs.Boxes.{IsImplied, greatest, greatest_term, low_ends}

mul_comm : (a b : ℤ) → a *ℤ b ≡ b *ℤ a
mul_comm a b = same_in _ _ (omega (arith, product_is a b, product_is b a))

-- an order times a number that isn't negative
pub rises : (c a b : ℤ) → pos 0 ≤ℤ c → a ≤ℤ b → (c *ℤ a) ≤ℤ (c *ℤ b)
rises c a b above le =
    let c_is : pos (unsigned_abs c) ≡ c = omega (arith, ints) in
    let by = λ (x : ℤ). ap (λ (n : ℤ). x *ℤ n) c_is in
    omega (arith, ints, mul_mono a b (unsigned_abs c) le, by a, by b, mul_comm c a, mul_comm c b)

module _ (bounds : List Bound) where
  lows_at : (variable : ℕ) → variable < length bounds → value_at (low_ends bounds) variable ≡ (range_of bounds variable).lo
  lows_at variable lt = get_or-map (λ (range : Bound). range.lo) bounds variable _ (pos 0) lt

  -- a term at the low ends is at most its greatest value
  low_term : (term : Term) → IsTerm (length bounds) term → All IsBound bounds → term_value (low_ends bounds) term ≤ℤ greatest_term bounds term
  low_term term is fit =
      let range = range_of bounds term.var in
      let value = ap (λ (x : ℤ). term.coef *ℤ x) (lows_at term.var is.known) in
      let ordered = (fit term.var (record { lo = pos 0; hi = pos 0 }) is.known).ordered in
      elim (cases_Bool (int_lt (pos 0) term.coef)) [
        | inl above ↦
            let positive : pos 0 ≤ℤ term.coef = grind (arith, ints) in
            let end = ap (λ (x : ℤ). term.coef *ℤ x) (cond-true _ range.hi range.lo above) in
            omega (arith, ints, value, end, rises term.coef range.lo range.hi positive ordered)
        | inr below ↦
            let end = ap (λ (x : ℤ). term.coef *ℤ x) (cond-false _ range.hi range.lo below) in
            omega (arith, ints, value, end)
      ]

  low_side : (terms : List Term) → All (IsTerm (length bounds)) terms → All IsBound bounds → left_side (low_ends bounds) terms ≤ℤ greatest bounds terms
  low_side [] is fit = omega (arith, ints)
  low_side (term ∷ terms) is fit =
      omega (arith, ints, low_term term (All-head (IsTerm (length bounds)) term terms is) fit, low_side terms (All-tail (IsTerm (length bounds)) term terms is) fit)

  -- where every row holds all over the box, the low ends solve the system
  pub low_ends_solve : (rows : List Row) → IsSystem (record { bounds = bounds; rows = rows }) → All (IsImplied bounds) rows → Solves bounds rows (low_ends bounds)
  low_ends_solve rows system implied = record {
    one_each = length-map bounds (λ (range : Bound). range.lo);
    within = λ k d lt.
        let value = lows_at k lt ∙ ap (λ (range : Bound). range.lo) (get_or_default bounds k _ d lt) in
        (omega (arith, ints, value), omega (arith, ints, value, (system.bounds_fit k d lt).ordered));
    rows_hold = λ k d lt. omega (arith, ints, low_side (get_or rows k d).terms (system.rows_fit k d lt).terms system.bounds_fit, implied k d lt);
  }

-- A row that holds nowhere in a box has a right leaf: at the ends where the row's left side is least, the rows of the
-- ranges take its variables out.
use Rattle.std.proofs.Common.{◌≡◌, ℕ, ◌+◌, ◌-◌, ◌*◌, ◌/◌, ◌^◌, ◌<◌, ◌≤◌, ◌==◌, if◌then◌else◌, Bool, true, false, List, [], ◌∷◌, length, get_or, map, All, Option, Some, ℤ, pos, negsuc, neg_ℤ, ◌+ℤ◌, ◌*ℤ◌, ◌≤ℤ◌, ◌<ℤ◌, int_lt, unsigned_abs, inl, inr, sym, ap, ◌∙◌, refl, arith}
use Rattle.std.proofs.lemmas.Bool.{cases_Bool, cond-true, cond-false}
use Rattle.std.proofs.lemmas.Int.{ints}
use Rattle.std.proofs.lemmas.List.{length-map}
use Rattle.std.proofs.lemmas.List.Elements.{All-cons, All-head, All-tail, All-map, All-weaker}
use Rattle.std.proofs.lemmas.Option.{slice_get-get_or}
use borrow.Author.Differences.{up, down, same_in, product_is, neg_is}
use Rattle.linear_form.specs.declared.form.Term.{Term}
use Rattle.linear_form.specs.declared.form.Row.{Row}
use Rattle.linear_form.specs.declared.form.Bound.{Bound}
use Rattle.linear_form.specs.System.{IsTerm, IsSystem}
use Rattle.linear_form.proofs.Sizes.{terms_few}
use Rattle.linear_cert.specs.declared.rows.Column.{Column}
use Rattle.linear_cert.specs.declared.rows.Column.TheVariants.{Variable, RightSide}
use Rattle.linear_cert.specs.Rows.{NamesRow, numbered_row, lower_row, upper_row, range_row}
use Rattle.linear_cert.specs.Columns.{coefficient, column_sum, entry, times, value_in}
use Rattle.linear_cert.specs.Right.{IsRightLeaf, range_of}
use Rattle.linear_cert.proofs.Numbered.{numbered_below, numbered_past, lower_at, upper_at}
use Rattle.linear_solver.specs.Boxes.{IsRefuted, closing, least, least_term, row_leaf}
use Rattle.linear_solver.proofs.RightLeaves.{IsFit, sums_fit}

module _ (bounds : List Bound) (rows : List Row) where
  -- the rows of the variable's range, by number
  lower_named : (variable : ℕ) → variable < length bounds → numbered_row bounds rows (length rows + 2 * variable + 0) ≡ Some (lower_row variable (range_of bounds variable))
  lower_named variable lt =
      let place : length rows + 2 * variable + 0 - length rows ≡ 2 * variable = omega arith in
      let half : 2 * variable / 2 ≡ variable = omega arith in
      numbered_past bounds rows (length rows + 2 * variable + 0) (omega arith) ∙ ap (range_row bounds) place
      ∙ lower_at bounds (2 * variable) _ (omega arith) (omega arith) ∙ ap (λ v. Some (lower_row v (range_of bounds v))) half

  upper_named : (variable : ℕ) → variable < length bounds → numbered_row bounds rows (length rows + 2 * variable + 1) ≡ Some (upper_row variable (range_of bounds variable))
  upper_named variable lt =
      let place : length rows + 2 * variable + 1 - length rows ≡ 2 * variable + 1 = omega arith in
      let half : (2 * variable + 1) / 2 ≡ variable = omega arith in
      numbered_past bounds rows (length rows + 2 * variable + 1) (omega arith) ∙ ap (range_row bounds) place
      ∙ upper_at bounds (2 * variable + 1) _ (omega arith) (omega arith) ∙ ap (λ v. Some (upper_row v (range_of bounds v))) half

  -- what a closing row adds to a column
  abbrev against : Column → Term → ℤ
  against (Variable k) term = neg_ℤ (if term.var == k then term.coef else pos 0)
  against RightSide term = neg_ℤ (least_term bounds term)

  picked_lower : (same : Bool) (c : ℤ) → pos 0 <ℤ c → ((if same then negsuc 0 else pos 0) +ℤ pos 0) *ℤ pos (unsigned_abs c) ≡ neg_ℤ (if same then c else pos 0)
  picked_lower true c above = omega (arith, ints)
  picked_lower false c above = omega (arith, ints)

  picked_upper : (same : Bool) (c : ℤ) → c ≤ℤ pos 0 → ((if same then pos 1 else pos 0) +ℤ pos 0) *ℤ pos (unsigned_abs c) ≡ neg_ℤ (if same then c else pos 0)
  picked_upper true c below = omega (arith, ints)
  picked_upper false c below = omega (arith, ints)

  neg_mul : (a b : ℤ) → neg_ℤ a *ℤ b ≡ neg_ℤ (b *ℤ a)
  neg_mul a b =
      let n = neg_is a in
      let of = neg_is (b *ℤ a) in
      let by = λ (k x y : ℕ) (e : x ≡ y). ap (λ (z : ℕ). z * k) e in
      same_in _ _ (omega (arith, of, product_is (neg_ℤ a) b, product_is b a, by (up b) _ _ n.0, by (down b) _ _ n.0, by (up b) _ _ n.1, by (down b) _ _ n.1))

  mul_neg : (a b : ℤ) → a *ℤ neg_ℤ b ≡ neg_ℤ (b *ℤ a)
  mul_neg a b =
      let n = neg_is b in
      let of = neg_is (b *ℤ a) in
      let by = λ (k x y : ℕ) (e : x ≡ y). ap (λ (z : ℕ). k * z) e in
      same_in _ _ (omega (arith, of, product_is a (neg_ℤ b), product_is b a, by (up a) _ _ n.0, by (down a) _ _ n.0, by (up a) _ _ n.1, by (down a) _ _ n.1))

  end_lower : (c end : ℤ) → pos 0 <ℤ c → neg_ℤ end *ℤ pos (unsigned_abs c) ≡ neg_ℤ (c *ℤ end)
  end_lower c end above =
      let c_is : pos (unsigned_abs c) ≡ c = omega (arith, ints) in
      ap (λ (x : ℤ). neg_ℤ end *ℤ x) c_is ∙ neg_mul end c

  end_upper : (c end : ℤ) → c ≤ℤ pos 0 → end *ℤ pos (unsigned_abs c) ≡ neg_ℤ (c *ℤ end)
  end_upper c end below =
      let c_is : pos (unsigned_abs c) ≡ neg_ℤ c = omega (arith, ints) in
      ap (λ (x : ℤ). end *ℤ x) c_is ∙ mul_neg end c

  lt_true : (c : ℤ) → int_lt (pos 0) c ≡ true → pos 0 <ℤ c
  lt_true c h = grind (arith, ints)

  lt_false : (c : ℤ) → int_lt (pos 0) c ≡ false → c ≤ℤ pos 0
  lt_false c h = grind (arith, ints)

  close_lower : (column : Column) (term : Term) → int_lt (pos 0) term.coef ≡ true → entry column (lower_row term.var (range_of bounds term.var)) *ℤ pos (unsigned_abs term.coef) ≡ against column term
  close_lower (Variable k) term above = picked_lower (term.var == k) term.coef (lt_true term.coef above)
  close_lower RightSide term above =
      let range = range_of bounds term.var in
      end_lower term.coef range.lo (lt_true term.coef above) ∙ ap (λ (end : ℤ). neg_ℤ (term.coef *ℤ end)) (sym (cond-true _ range.lo range.hi above))

  close_upper : (column : Column) (term : Term) → int_lt (pos 0) term.coef ≡ false → entry column (upper_row term.var (range_of bounds term.var)) *ℤ pos (unsigned_abs term.coef) ≡ against column term
  close_upper (Variable k) term below = picked_upper (term.var == k) term.coef (lt_false term.coef below)
  close_upper RightSide term below =
      let range = range_of bounds term.var in
      end_upper term.coef range.hi (lt_false term.coef below) ∙ ap (λ (end : ℤ). neg_ℤ (term.coef *ℤ end)) (sym (cond-false _ range.lo range.hi below))

  -- each closing row takes its term out, at the end where the term is least
  closing_is : (column : Column) (term : Term) → IsTerm (length bounds) term → times (entry column) bounds rows (closing (length rows) term) ≡ against column term
  closing_is column term is = elim (cases_Bool (int_lt (pos 0) term.coef)) [
    | inl above ↦
        let number = ap (λ (s : ℕ). length rows + 2 * term.var + s) (cond-true _ 0 1 above) in
        let named = ap (numbered_row bounds rows) number ∙ lower_named term.var is.known in
        ap (λ (row : Option Row). value_in (entry column) row *ℤ pos (unsigned_abs term.coef)) named ∙ close_lower column term above
    | inr below ↦
        let number = ap (λ (s : ℕ). length rows + 2 * term.var + s) (cond-false _ 0 1 below) in
        let named = ap (numbered_row bounds rows) number ∙ upper_named term.var is.known in
        ap (λ (row : Option Row). value_in (entry column) row *ℤ pos (unsigned_abs term.coef)) named ∙ close_upper column term below
  ]

  -- what all of them add to a column
  abbrev against_all : Column → List Term → ℤ
  against_all (Variable k) terms = neg_ℤ (coefficient k terms)
  against_all RightSide terms = neg_ℤ (least bounds terms)

  against_cons : (column : Column) (term : Term) (terms : List Term) → against column term +ℤ against_all column terms ≡ against_all column (term ∷ terms)
  against_cons (Variable k) term terms = omega (arith, ints)
  against_cons RightSide term terms = omega (arith, ints)

  closings_are : (column : Column) (terms : List Term) → All (IsTerm (length bounds)) terms → column_sum column bounds rows (map (closing (length rows)) terms) ≡ against_all column terms
  closings_are (Variable k) [] is = refl
  closings_are RightSide [] is = refl
  closings_are column (term ∷ terms) is =
      let first = closing_is column term (All-head (IsTerm (length bounds)) term terms is) in
      let rest = closings_are column terms (All-tail (IsTerm (length bounds)) term terms is) in
      omega (arith, ints, first, rest, against_cons column term terms)

  side_small : (above : Bool) → (if above then 0 else 1) ≤ 1
  side_small true = omega arith
  side_small false = omega arith

  closing_fits : (term : Term) → IsTerm (length bounds) term → IsFit bounds rows (2 ^ 48) (closing (length rows) term)
  closing_fits term is = record { named = omega (arith, is.known, side_small (int_lt (pos 0) term.coef)); small = omega (arith, is.small) }

  -- the leaf of a row that holds nowhere in the box is right
  pub row_leaf_right : IsSystem (record { bounds = bounds; rows = rows }) → (number : ℕ) (d : Row) → number < length rows → IsRefuted bounds (get_or rows number d) → IsRightLeaf bounds rows (row_leaf (length rows) number (get_or rows number d).terms)
  row_leaf_right system number d lt refuted =
      let row = get_or rows number d in
      let is = system.rows_fit number d lt in
      let mults = row_leaf (length rows) number row.terms in
      let closings = map (closing (length rows)) row.terms in
      let few : length mults ≤ 1000 = omega (arith, system.few_variables, terms_few (length bounds) row is, length-map row.terms (closing (length rows))) in
      let named = λ (column : Column). ap (λ (r : Option Row). value_in (entry column) r *ℤ pos 1) (numbered_below bounds rows number lt ∙ slice_get-get_or rows number d lt) in
      let first : IsFit bounds rows (2 ^ 48) (record { row = number; by = 1 }) = record { named = omega arith; small = omega arith } in
      let fit = All-cons (IsFit bounds rows (2 ^ 48)) (record { row = number; by = 1 }) closings first (All-map (IsFit bounds rows (2 ^ 48)) (closing (length rows)) row.terms (λ k e l. closing_fits (get_or row.terms k e) (is.terms k e l))) in
      record {
        named = All-weaker (IsFit bounds rows (2 ^ 48)) (NamesRow bounds rows) (λ m i. i.named) mults fit;
        no_term = λ k known. record {
          fits = sums_fit bounds rows system (Variable k) mults few fit;
          sum = omega (arith, ints, named (Variable k), closings_are (Variable k) row.terms is.terms);
        };
        negative = record {
          fits = sums_fit bounds rows system RightSide mults few fit;
          sum = omega (arith, ints, named RightSide, closings_are RightSide row.terms is.terms, refuted);
        };
      }

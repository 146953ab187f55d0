-- Why a right certificate leaves no solution. At a solution each named row holds, so the sum of the rows times their
-- multipliers holds too. Without a term it says that 0 is at most its bound, which is negative.
use Rattle.std.proofs.Common.{◌≡◌, ◌≢◌, ℕ, zero, suc, ◌-◌, ◌/◌, ◌%◌, ◌<◌, slice_get, List, [], ◌∷◌, length, Bool, true, false, Option, Some, None, option_map, ℤ, pos, ◌+ℤ◌, ◌*ℤ◌, ◌≤ℤ◌, ◌==◌, if◌then◌else◌, ◌⊎◌, inl, inr, set, length-set, subst, ap, sym, ◌∙◌, refl, arith}
use Rattle.std.proofs.lemmas.Bool.{cases_lt}
use Rattle.std.proofs.lemmas.Int.{ints}
use Rattle.std.proofs.lemmas.Grind.{common_steps}
use Rattle.std.proofs.lemmas.List.{get_or_past}
use Rattle.std.proofs.lemmas.Option.{get_or_from_slice_get, slice_get_within}
use Rattle.linear_form.specs.declared.form.Term.{Term}
use Rattle.linear_form.specs.declared.form.Row.{Row}
use Rattle.linear_form.specs.declared.form.Bound.{Bound}
use Rattle.linear_form.specs.Sum.{sum_over}
use Rattle.linear_form.specs.Solution.{value_at, term_value, left_side, IsWithin, RowHolds, Solves, HasNoSolution}
use Rattle.linear_cert.specs.declared.cert.Mult.{Mult}
use Rattle.linear_cert.specs.declared.rows.Column.TheVariants.{Variable, RightSide}
use Rattle.linear_cert.specs.Rows.{numbered_row, lower_row, upper_row}
use Rattle.linear_cert.specs.Columns.{coefficient, column_sum, entry, times, value_in}
use Rattle.linear_cert.specs.Right.{CertTree, leaf, split, IsRight, up_to, past}
use Rattle.linear_cert.proofs.Coefficients.{pick_other, pick_same}
use Rattle.linear_cert.proofs.Numbered.{numbered_below, numbered_past}
use Rattle.linear_cert.proofs.Integers.{add-mul, mul_right_comm, mul_mono}

-- f 0 + f 1 + .. over the first n numbers
abbrev sum_below : ℕ → (ℕ → ℤ) → ℤ
sum_below zero f = pos 0
sum_below (suc n) f = sum_below n f +ℤ f n

sum_below-same : (n : ℕ) (f g : ℕ → ℤ) → ((k : ℕ) → k < n → f k ≡ g k) → sum_below n f ≡ sum_below n g
sum_below-same zero f g same = refl
sum_below-same (suc n) f g same =
    omega (arith, ints, sum_below-same n f g (λ k lt. same k (omega arith)), same n (omega arith))

sum_below-zero : (n : ℕ) (f : ℕ → ℤ) → ((k : ℕ) → k < n → f k ≡ pos 0) → sum_below n f ≡ pos 0
sum_below-zero zero f none = refl
sum_below-zero (suc n) f none =
    omega (arith, ints, sum_below-zero n f (λ k lt. none k (omega arith)), none n (omega arith))

sum_below-add : (n : ℕ) (f g : ℕ → ℤ) → sum_below n (λ k. f k +ℤ g k) ≡ sum_below n f +ℤ sum_below n g
sum_below-add zero f g = refl
sum_below-add (suc n) f g = omega (arith, ints, sum_below-add n f g)

sum_below-mul : (n : ℕ) (f : ℕ → ℤ) (c : ℤ) → sum_below n f *ℤ c ≡ sum_below n (λ k. f k *ℤ c)
sum_below-mul zero f c = omega (arith, ints)
sum_below-mul (suc n) f c = add-mul (sum_below n f) (f n) c ∙ ap (λ x. x +ℤ f n *ℤ c) (sum_below-mul n f c)

-- what a term adds to the k-th variable's coefficient
abbrev picked : Term → ℕ → ℤ
picked term k = if term.var == k then term.coef else pos 0

module _ (point : List ℤ) where
  abbrev left_of : Row → ℤ
  left_of row = left_side point row.terms

  -- what a term adds to the k-th variable's coefficient, times its value
  abbrev part : Term → ℕ → ℤ
  part term k = picked term k *ℤ value_at point k

  part-other : (term : Term) (k : ℕ) → term.var ≢ k → part term k ≡ pos 0
  part-other term k ne = ap (λ c. c *ℤ value_at point k) (pick_other term.var k term.coef ne) ∙ omega (arith, ints)

  part-same : (term : Term) → part term term.var ≡ term.coef *ℤ value_at point term.var
  part-same term = ap (λ c. c *ℤ value_at point term.var) (pick_same term.var term.var term.coef refl)

  -- one term, sought among the first n variables
  one_term : (n : ℕ) (term : Term) → term.var < n → sum_below n (part term) ≡ term.coef *ℤ value_at point term.var
  one_term zero term lt = absurd (omega arith)
  one_term (suc n) term lt = elim (cases_lt term.var n) [
    | inl below ↦ omega (arith, ints, one_term n term below, part-other term n (omega arith))
    | inr above ↦
        let same : term.var ≡ n = omega arith in
        let before = sum_below-zero n (part term) (λ k kl. part-other term k (omega arith)) in
        let here = subst (λ k. part term k ≡ term.coef *ℤ value_at point term.var) same (part-same term) in
        omega (arith, ints, before, here)
  ]

  -- a term's value; a variable past the point's values has the value 0
  each_term : (n : ℕ) (term : Term) → length point ≡ n → sum_below n (part term) ≡ term_value point term
  each_term n term same = elim (cases_lt term.var n) [
    | inl below ↦ one_term n term below
    | inr past ↦
        let value : value_at point term.var ≡ pos 0 = get_or_past point term.var (pos 0) (omega arith) in
        let none = sum_below-zero n (part term) (λ k lt. part-other term k (omega arith)) in
        none ∙ sym (ap (λ x. term.coef *ℤ x) value ∙ omega (arith, ints))
  ]

  -- a left side, variable by variable
  by_variable : (n : ℕ) (terms : List Term) → length point ≡ n → sum_below n (λ k. coefficient k terms *ℤ value_at point k) ≡ left_side point terms
  by_variable n [] same = sum_below-zero n _ (λ k lt. omega (arith, ints))
  by_variable n (term ∷ rest) same =
      let parts = sum_below-same n (λ k. coefficient k (term ∷ rest) *ℤ value_at point k) (λ k. part term k +ℤ coefficient k rest *ℤ value_at point k) (λ k lt. add-mul (picked term k) (coefficient k rest) (value_at point k)) in
      let sums = sum_below-add n (part term) (λ k. coefficient k rest *ℤ value_at point k) in
      omega (arith, ints, parts, sums, each_term n term same, by_variable n rest same)

  -- the same of a row that may be missing
  row_by_variable : (n : ℕ) (row : Option Row) → length point ≡ n → sum_below n (λ k. value_in (entry (Variable k)) row *ℤ value_at point k) ≡ value_in left_of row
  row_by_variable n None same = sum_below-zero n _ (λ k lt. omega (arith, ints))
  row_by_variable n (Some row) same = by_variable n row.terms same

  -- a row that holds, times its multiplier; a missing one counts as 0
  row_in_order : (row : Option Row) (by : ℕ) → ((r : Row) → row ≡ Some r → RowHolds point r) → (value_in left_of row *ℤ pos by) ≤ℤ (value_in (entry RightSide) row *ℤ pos by)
  row_in_order None by holds = omega (arith, ints)
  row_in_order (Some row) by holds = mul_mono (left_of row) row.bound by (holds row refl)

  module _ (bounds : List Bound) (rows : List Row) where
    -- the sum of left sides, variable by variable
    mults_by_variable : (n : ℕ) (mults : List Mult) → length point ≡ n → sum_below n (λ k. column_sum (Variable k) bounds rows mults *ℤ value_at point k) ≡ sum_over (times left_of bounds rows) mults
    mults_by_variable n [] same = sum_below-zero n _ (λ k lt. omega (arith, ints))
    mults_by_variable n (mult ∷ rest) same =
        let row = numbered_row bounds rows mult.row in
        let value = λ (k : ℕ). value_at point k in
        let here = λ (k : ℕ). value_in (entry (Variable k)) row in
        let after = λ (k : ℕ). column_sum (Variable k) bounds rows rest *ℤ value k in
        let split = sum_below-same n (λ k. column_sum (Variable k) bounds rows (mult ∷ rest) *ℤ value k) (λ k. (here k *ℤ value k) *ℤ pos mult.by +ℤ after k)
        (λ k lt. add-mul (here k *ℤ pos mult.by) (column_sum (Variable k) bounds rows rest) (value k) ∙ ap (λ x. x +ℤ after k) (mul_right_comm (here k) (pos mult.by) (value k))) in
        let sums = sum_below-add n (λ k. (here k *ℤ value k) *ℤ pos mult.by) after in
        let factor = sum_below-mul n (λ k. here k *ℤ value k) (pos mult.by) in
        let first = ap (λ x. x *ℤ pos mult.by) (row_by_variable n row same) in
        omega (arith, ints, split, sums, factor, first, mults_by_variable n rest same)

    -- the sum of left sides is at most the sum of bounds
    in_order : (mults : List Mult) → ((number : ℕ) (r : Row) → numbered_row bounds rows number ≡ Some r → RowHolds point r) → sum_over (times left_of bounds rows) mults ≤ℤ column_sum RightSide bounds rows mults
    in_order [] holds = omega (arith, ints)
    in_order (mult ∷ rest) holds =
        let first = row_in_order (numbered_row bounds rows mult.row) mult.by (holds mult.row) in
        omega (arith, ints, first, in_order rest holds)

  -- the rows of a range hold where the value lies in it
  single_holds : (lower : Bool) (variable : ℕ) (range : Bound) → IsWithin range (value_at point variable) → RowHolds point ((if lower then lower_row variable else upper_row variable) range)
  single_holds true variable range within = omega (arith, ints, within.0)
  single_holds false variable range within = omega (arith, ints, within.1)

  range_holds : (lower : Bool) (variable : ℕ) (range : Option Bound) (r : Row) → ((b : Bound) → range ≡ Some b → IsWithin b (value_at point variable)) → option_map (if lower then lower_row variable else upper_row variable) range ≡ Some r → RowHolds point r
  range_holds lower variable None r within named = absurd (cc named)
  range_holds lower variable (Some b) r within named =
      let same : (if lower then lower_row variable else upper_row variable) b ≡ r = cc named in
      subst (RowHolds point) same (single_holds lower variable b (within b refl))

  -- at a solution each row with a number holds
  numbered_holds : (bounds : List Bound) (rows : List Row) → Solves bounds rows point → (number : ℕ) (r : Row) → numbered_row bounds rows number ≡ Some r → RowHolds point r
  numbered_holds bounds rows solves number r named = elim (cases_lt number (length rows)) [
    | inl below ↦
        let found = sym (numbered_below bounds rows number below) ∙ named in
        subst (RowHolds point) (get_or_from_slice_get rows number r r found) (solves.rows_hold number r below)
    | inr past ↦
        let place = number - length rows in
        let within = λ (b : Bound) (found : slice_get bounds (place / 2) ≡ Some b). subst (λ (range : Bound). IsWithin range (value_at point (place / 2))) (get_or_from_slice_get bounds (place / 2) b b found) (solves.within (place / 2) b (slice_get_within bounds (place / 2) b found)) in
        range_holds (place % 2 == 0) (place / 2) (slice_get bounds (place / 2)) r within (sym (numbered_past bounds rows number past) ∙ named)
  ]

-- a value of a range lies in one part or the other
in_a_part : (lo hi at v : ℤ) → lo ≤ℤ v → v ≤ℤ hi → (v ≤ℤ at) ⊎ ((at +ℤ pos 1) ≤ℤ v)
in_a_part lo hi at v low high = grind (arith, ints)

-- a solution lies in each range that has its value
narrowed : (bounds : List Bound) (rows : List Row) (point : List ℤ) (variable : ℕ) (range : Bound) → Solves bounds rows point → IsWithin range (value_at point variable) → Solves (set bounds variable range) rows point
narrowed bounds rows point variable range solves within = record {
  one_each = solves.one_each ∙ sym (length-set bounds variable range);
  within = λ k d lt. grind (arith, common_steps, solves.within k d, within);
  rows_hold = solves.rows_hold;
}

-- a right certificate leaves no solution
pub no_solution : (bounds : List Bound) (rows : List Row) (tree : CertTree) → IsRight bounds rows tree → HasNoSolution bounds rows
no_solution bounds rows (leaf mults) right point solves =
    let n = length bounds in
    let value = λ (k : ℕ). value_at point k in
    let none = sum_below-zero n (λ k. column_sum (Variable k) bounds rows mults *ℤ value k) (λ k lt. ap (λ s. s *ℤ value k) (right.no_term k lt).sum ∙ omega (arith, ints)) in
    let left = mults_by_variable point bounds rows n mults solves.one_each in
    let order = in_order point bounds rows mults (numbered_holds point bounds rows solves) in
    omega (arith, ints, none, left, order, right.negative.sum)
no_solution bounds rows (split variable at left right) (cut, left_right, right_right) point solves =
    let none : Bound = record { lo = pos 0; hi = pos 0 } in
    let within = solves.within variable none cut.known in
    elim (in_a_part _ _ at (value_at point variable) within.0 within.1) [
      | inl low ↦ no_solution (up_to bounds variable at) rows left left_right point (narrowed bounds rows point variable _ solves (within.0, low))
      | inr high ↦ no_solution (past bounds variable at) rows right right_right point (narrowed bounds rows point variable _ solves (high, within.1))
    ]

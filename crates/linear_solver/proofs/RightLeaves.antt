-- The multipliers of a contradiction are a right leaf.
use Rattle.std.proofs.Common.{◌≡◌, ℕ, zero, suc, ◌+◌, ◌*◌, ◌^◌, ◌≤◌, ◌==◌, true, List, [], ◌∷◌, length, get_or, take, All, ℤ, pos, ◌*ℤ◌, ◌≤ℤ◌, ◌<ℤ◌, unsigned_abs, inl, inr, subst, sym, ap, ◌∙◌, refl, arith, mul-le-mul}
use Rattle.std.specs.Int.{w128}
use Rattle.std.proofs.lemmas.Bool.{cases_Bool, and_parts, cond-true, cond-false, eqb-true}
use Rattle.std.proofs.lemmas.Int.{ints, fits_signed_from_abs, unsigned_abs-mul}
use Rattle.std.proofs.lemmas.List.{length-take}
use Rattle.std.proofs.lemmas.List.Elements.{All-nil, All-cons, All-head, All-tail, All-take, All-weaker}
use borrow.Author.Differences.{same_in, product_is}
use Rattle.linear_form.specs.declared.form.Row.{Row}
use Rattle.linear_form.specs.declared.form.Bound.{Bound}
use Rattle.linear_form.specs.System.{IsSystem}
use Rattle.linear_cert.specs.declared.cert.Mult.{Mult}
use Rattle.linear_cert.specs.declared.rows.Column.{Column}
use Rattle.linear_cert.specs.declared.rows.Column.TheVariants.{Variable, RightSide}
use Rattle.linear_cert.specs.Rows.{NamesRow}
use Rattle.linear_cert.specs.Columns.{PartialSumsFit, column_sum, entry, times}
use Rattle.linear_cert.specs.Right.{IsRightLeaf}
use Rattle.linear_solver.specs.declared.derived.Derived.{Derived}
use Rattle.linear_solver.specs.Sums.{IsAtMost}
use Rattle.linear_solver.specs.Leaves.{multipliers_from, times_row}
use Rattle.linear_solver.specs.Elimination.{IsContradiction, IsSmall, has_no_term, number_in, numbered_count}
use Rattle.linear_solver.specs.Follows.{Follows, weighted}
use Rattle.linear_solver.proofs.Magnitudes.{number_small, sum_over_small}

-- a multiplier in range, of a row that is there
pub record IsFit (bounds : List Bound) (rows : List Row) (most : ℕ) (mult : Mult) : Type 0 where
  pub named : NamesRow bounds rows mult
  pub small : mult.by ≤ most

module _ (bounds : List Bound) (rows : List Row) (system : IsSystem (record { bounds = bounds; rows = rows })) where
  product_small : (a : ℤ) (by m n : ℕ) → unsigned_abs a ≤ m → by ≤ n → unsigned_abs (a *ℤ pos by) ≤ m * n
  product_small a by m n ha hb = rw (unsigned_abs-mul a (pos by)) (mul-le-mul ha hb)

  times_small : (column : Column) (mult : Mult) → IsFit bounds rows (2 ^ 48) mult → unsigned_abs (times (entry column) bounds rows mult) ≤ 2 ^ 110
  times_small column mult fit = product_small (number_in column bounds rows mult.row) mult.by (2 ^ 62) (2 ^ 48) (number_small bounds rows system column mult.row) fit.small

  -- few multipliers in range have partial sums in range
  pub sums_fit : (column : Column) (mults : List Mult) → length mults ≤ 1000 → All (IsFit bounds rows (2 ^ 48)) mults → PartialSumsFit column bounds rows mults
  sums_fit column mults few fit = λ k le.
      let front = All-take (IsFit bounds rows (2 ^ 48)) k mults fit in
      let small = sum_over_small (times (entry column) bounds rows) (take k mults) (2 ^ 110) (λ j d lt. times_small column (get_or (take k mults) j d) (front j d lt)) in
      let short : length (take k mults) ≤ 1000 = omega (arith, length-take k mults) in
      fits_signed_from_abs w128 (column_sum column bounds rows (take k mults)) (omega (arith, small))

  mul_comm : (a b : ℤ) → a *ℤ b ≡ b *ℤ a
  mul_comm a b = same_in _ _ (omega (arith, product_is a b, product_is b a))

  -- the sum in a column, without the multipliers that are 0
  sum_is : (column : Column) (number : ℕ) (mults : List ℤ) → All (λ (m : ℤ). pos 0 ≤ℤ m) mults → column_sum column bounds rows (multipliers_from number mults) ≡ weighted bounds rows column number mults
  sum_is column number [] positive = refl
  sum_is column number (m ∷ mults) positive =
      let n = number_in column bounds rows number in
      let rest = sum_is column (suc number) mults (All-tail (λ (m : ℤ). pos 0 ≤ℤ m) m mults positive) in
      let here = All-head (λ (m : ℤ). pos 0 ≤ℤ m) m mults positive in
      let m_is : pos (unsigned_abs m) ≡ m = omega (arith, ints, here) in
      elim (cases_Bool (unsigned_abs m == 0)) [
        | inl zero_is ↦
            let none : m ≡ pos 0 = omega (arith, ints, eqb-true (unsigned_abs m) 0 zero_is) in
            let gone = ap (λ x. x *ℤ n) none in
            let list = cond-true _ (multipliers_from (suc number) mults) (times_row number m ∷ multipliers_from (suc number) mults) zero_is in
            ap (column_sum column bounds rows) list ∙ omega (arith, ints, rest, gone)
        | inr some ↦
            let list = cond-false _ (multipliers_from (suc number) mults) (times_row number m ∷ multipliers_from (suc number) mults) some in
            let first = ap (λ x. n *ℤ x) m_is ∙ mul_comm n m in
            ap (column_sum column bounds rows) list ∙ omega (arith, ints, rest, first)
      ]

  all_fit : (number : ℕ) (mults : List ℤ) → number + length mults ≤ numbered_count bounds rows → All (IsAtMost (2 ^ 48)) mults → All (IsFit bounds rows (2 ^ 48)) (multipliers_from number mults) × (length (multipliers_from number mults) ≤ length mults)
  all_fit number [] le small = (All-nil (IsFit bounds rows (2 ^ 48)), omega arith)
  all_fit number (m ∷ mults) le small =
      let rest = all_fit (suc number) mults (omega arith) (All-tail (IsAtMost (2 ^ 48)) m mults small) in
      let first : IsFit bounds rows (2 ^ 48) (times_row number m) = record { named = omega arith; small = All-head (IsAtMost (2 ^ 48)) m mults small } in
      let P = λ (xs : List Mult). All (IsFit bounds rows (2 ^ 48)) xs × (length xs ≤ suc (length mults)) in
      elim (cases_Bool (unsigned_abs m == 0)) [
        | inl zero_is ↦ subst P (sym (cond-true _ (multipliers_from (suc number) mults) (times_row number m ∷ multipliers_from (suc number) mults) zero_is)) (rest.0, omega (arith, rest.1))
        | inr some ↦ subst P (sym (cond-false _ (multipliers_from (suc number) mults) (times_row number m ∷ multipliers_from (suc number) mults) some)) (All-cons (IsFit bounds rows (2 ^ 48)) (times_row number m) (multipliers_from (suc number) mults) first rest.0, omega (arith, rest.1))
      ]

  -- a row without a term has no coefficient but 0
  coefs_zero : (coefs : List ℤ) (v : ℕ) → has_no_term coefs ≡ true → get_or coefs v (pos 0) ≡ pos 0
  coefs_zero [] v none = refl
  coefs_zero (c ∷ coefs) zero none =
      let parts = and_parts (unsigned_abs c == 0) (has_no_term coefs) none in
      omega (arith, ints, eqb-true (unsigned_abs c) 0 parts.0)
  coefs_zero (c ∷ coefs) (suc v) none =
      let parts = and_parts (unsigned_abs c == 0) (has_no_term coefs) none in
      coefs_zero coefs v parts.1

  pub contradiction_leaf : (row : Derived) → Follows bounds rows row → IsSmall row → IsContradiction row → IsRightLeaf bounds rows (multipliers_from 0 row.mults)
  contradiction_leaf row follows small refutes =
      let mults = multipliers_from 0 row.mults in
      let fit = all_fit 0 row.mults (omega (arith, follows.mults_len)) small.mults in
      let few : length mults ≤ 1000 = omega (arith, fit.1, follows.mults_len, system.few_rows, system.few_variables) in
      record {
        named = All-weaker (IsFit bounds rows (2 ^ 48)) (NamesRow bounds rows) (λ m is. is.named) mults fit.0;
        no_term = λ k lt. record {
          fits = sums_fit (Variable k) mults few fit.0;
          sum = sum_is (Variable k) 0 row.mults follows.positive ∙ sym (follows.coefs k lt) ∙ coefs_zero row.coefs k refutes.0;
        };
        negative = record {
          fits = sums_fit RightSide mults few fit.0;
          sum = subst (λ (s : ℤ). s <ℤ pos 0) (follows.bound ∙ sym (sum_is RightSide 0 row.mults follows.positive)) refutes.1;
        };
      }

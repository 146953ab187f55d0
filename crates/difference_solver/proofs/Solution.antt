-- Why the distances to the zero are a solution, once the table is closed.
use Rattle.std.proofs.Common.{◌≡◌, ℕ, ◌+◌, ◌<◌, ◌≤◌, List, [], ◌∷◌, ◌++◌, length, get_or, All, ℤ, pos, inl, inr, FitsSigned, sym, subst, ◌∙◌, arith}
use Rattle.std.specs.Int.{w64}
use Rattle.std.proofs.lemmas.Int.{ints}
use Rattle.std.proofs.lemmas.Bool.{cases_eq}
use Rattle.std.proofs.lemmas.List.{get_or_at, get_or_append_left, get_or_past, get_or_default}
use Rattle.linear_form.specs.declared.form.Bound.{Bound}
use Rattle.linear_form.specs.declared.form.Row.{Row}
use Rattle.linear_form.specs.Solution.{IsWithin, RowHolds, Solves, value_at}
use Rattle.linear_form.specs.System.{IsBound}
use Rattle.linear_cert.specs.Right.{range_of}
use Rattle.difference_solver.specs.Distances.{Table, between}
use Rattle.difference_solver.specs.Meaning.{Keeps}
use Rattle.difference_solver.specs.Closing.{IsState, IsClosed}

module _ (bounds : List Bound) (rows : List Row) (table : Table) (state : IsState bounds rows table) (closed : IsClosed table) where
  -- a variable's distance to the zero lies in its range
  pub in_range : (v : ℕ) → v < length bounds → IsWithin (range_of bounds v) (between table v (length bounds)).bound
  in_range v lv =
      let size = state.size in
      let rv : v < table.size = omega arith in
      let rn : length bounds < table.size = omega arith in
      (omega (arith, ints, closed.at_each (length bounds) rn v v rv rv, closed.settled v rv, state.lower v lv), state.upper v lv)

  -- so it is a signed number of 64 bits
  pub value_fits : (v : ℕ) → v < length bounds → All IsBound bounds → FitsSigned w64 (between table v (length bounds)).bound
  value_fits v lv fit =
      let within = in_range v lv in
      let range = fit v (record { lo = pos 0; hi = pos 0 }) lv in
      omega (arith, ints, within.0, within.1, range.low, range.high)

  module _ (vals : List ℤ) (one_each : length vals ≡ length bounds) (are : (k : ℕ) → k < length bounds → get_or vals k (pos 0) ≡ (between table k (length bounds)).bound) where
    -- the zero's value is its distance to itself, too
    value_is : (node : ℕ) → node ≤ length bounds → value_at vals node ≡ (between table node (length bounds)).bound
    value_is node le = elim (cases_eq node (length bounds)) [
      | inl same ↦
          let size = state.size in
          let rn : length bounds < table.size = omega arith in
          let none : value_at vals (length bounds) ≡ pos 0 = get_or_past vals (length bounds) (pos 0) (omega arith) in
          subst (λ k. value_at vals k ≡ (between table k (length bounds)).bound) (sym same) (omega (arith, ints, none, state.zero, closed.settled (length bounds) rn))
      | inr other ↦ are node (omega arith)
    ]

    row_holds : (row : Row) → Keeps (length bounds) table row → RowHolds vals row
    row_holds row keeps =
        let edge = keeps.edge in
        let size = state.size in
        let rf : keeps.from < table.size = omega (arith, edge.from_known) in
        let rt : keeps.to < table.size = omega (arith, edge.to_known) in
        let rn : length bounds < table.size = omega arith in
        omega (arith, ints, edge.value vals one_each, value_is keeps.from edge.from_known, value_is keeps.to edge.to_known, closed.at_each keeps.to rt keeps.from (length bounds) rf rn, keeps.kept)

    pub solves : Solves bounds rows vals
    solves = record {
      one_each = one_each;
      within = λ k d lk.
          let range : get_or bounds k d ≡ range_of bounds k = get_or_default bounds k d _ lk in
          let value = value_is k (omega arith) in
          rw (range, value) (in_range k lk);
      rows_hold = λ k d lk. row_holds (get_or rows k d) (state.kept k d lk);
    }

-- one value more of a list
pub one_value : (f : ℕ → ℤ) (xs ys : List ℤ) (n : ℕ) (x : ℤ) → length xs ≡ n → ys ≡ xs ++ x ∷ [] → x ≡ f n → ((k : ℕ) → k < n → get_or xs k (pos 0) ≡ f k) → (k : ℕ) → k < n + 1 → get_or ys k (pos 0) ≡ f k
one_value f xs ys n x count is value each k lt = elim (cases_eq k n) [
  | inl same ↦ rw (is, same) (get_or_at xs x [] (pos 0) n count ∙ value)
  | inr other ↦ rw is (get_or_append_left xs (x ∷ []) (pos 0) k (omega arith) ∙ each k (omega arith))
]

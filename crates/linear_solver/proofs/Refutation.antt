-- The lists of elimination one after another, and when they refute nothing.
use Rattle.std.proofs.Common.{◌≡◌, ℕ, suc, ◌+◌, ◌<◌, List, [], length, get_or, All, pos, Option, Some, None, MatchOption, IfSome, inl, inr, subst, sym, ap, refl, arith}
use Rattle.std.proofs.lemmas.Bool.{cases_lt}
use Rattle.std.proofs.lemmas.List.FromFn.{length-map-range_with_len}
use Rattle.linear_form.specs.declared.form.Row.{Row}
use Rattle.linear_form.specs.declared.form.Bound.{Bound}
use Rattle.linear_form.specs.System.{IsSystem}
use Rattle.linear_cert.specs.Right.{IsRightLeaf}
use Rattle.linear_cert.specs.declared.cert.Mult.{Mult}
use Rattle.linear_solver.specs.declared.derived.Derived.{Derived}
use Rattle.linear_solver.specs.Elimination.{HasNoContradiction, IsRefutedByElimination, IsWithinSizes, first_list, first_row, list_after, next_list, numbered_count}
use Rattle.linear_solver.specs.Shapes.{HasShape, IsList, LeafIn, shape_of}
use Rattle.linear_solver.specs.Follows.{Follows}
use Rattle.linear_solver.proofs.Follows.{after_follows}
use Rattle.linear_solver.proofs.RightLeaves.{contradiction_leaf}

module _ (bounds : List Bound) (rows : List Row) where
  pub after-none : list_after bounds rows 0 ≡ first_list bounds rows
  unfolding list_after
  after-none = refl

  pub after-more : (v : ℕ) → list_after bounds rows (v + 1) ≡ next_list v (list_after bounds rows v)
  unfolding list_after
  after-more v = let e : v + 1 ≡ suc v = omega arith in rw e refl

  pub first_is_list : IsSystem (record { bounds = bounds; rows = rows }) → (list : List Derived) → list ≡ first_list bounds rows → All (HasShape (shape_of bounds rows)) list → IsList (shape_of bounds rows) list
  first_is_list system list is shapes = record {
    few = omega (arith, ap length is, length-map-range_with_len (first_row bounds rows) 0 (numbered_count bounds rows), system.few_rows, system.few_variables);
    shapes = shapes;
  }

  pub so_far_more : (v : ℕ) → ((k : ℕ) → k < v → HasNoContradiction (list_after bounds rows k)) → HasNoContradiction (list_after bounds rows v) → (k : ℕ) → k < v + 1 → HasNoContradiction (list_after bounds rows k)
  so_far_more v before here k lt = elim (cases_lt k v) [
    | inl below ↦ before k below
    | inr above ↦
        let same : v ≡ k = omega arith in
        subst (λ j. HasNoContradiction (list_after bounds rows j)) same here
  ]

  -- lists without a contradiction, and then one that passes a size
  pub stopped : (v : ℕ) → ((k : ℕ) → k < v + 1 → HasNoContradiction (list_after bounds rows k)) → (IsWithinSizes (next_list v (list_after bounds rows v)) → ⊥) → IsRefutedByElimination bounds rows → ⊥
  stopped v none past refuted = elim (cases_lt refuted.eliminated (v + 1)) [
    | inl below ↦ refuted.refutes (none refuted.eliminated below)
    | inr above ↦ past (subst IsWithinSizes (after-more v) (refuted.sizes (v + 1) above))
  ]

  -- the multipliers of a contradiction of some list
  pub leaf_is_right : IsSystem (record { bounds = bounds; rows = rows }) → (list : List Derived) (v : ℕ) → list ≡ list_after bounds rows v → IsList (shape_of bounds rows) list → (leaf : List Mult) → LeafIn list leaf → IsRightLeaf bounds rows leaf
  leaf_is_right system list v lists is leaf found =
      let none : Derived = record { coefs = []; bound = pos 0; mults = [] } in
      let place = found.place in
      let follows = subst (All (Follows bounds rows)) (sym lists) (after_follows bounds rows v) place none found.refutes.known in
      let small = (is.shapes place none found.refutes.known).small in
      let right = contradiction_leaf bounds rows system (get_or list place none) follows small (found.refutes.refutes none) in
      subst (IsRightLeaf bounds rows) (sym (found.leaf_is none)) right

  -- the same of what may be no leaf
  pub found_is_right : IsSystem (record { bounds = bounds; rows = rows }) → (list : List Derived) (v : ℕ) → list ≡ list_after bounds rows v → IsList (shape_of bounds rows) list → (leaf : Option (List Mult)) → MatchOption leaf (HasNoContradiction list) (LeafIn list) → IfSome leaf (IsRightLeaf bounds rows)
  found_is_right system list v lists is None found = tt
  found_is_right system list v lists is (Some leaf) found = leaf_is_right system list v lists is leaf found

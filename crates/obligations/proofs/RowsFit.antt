-- The rows of the cases fit a system over the places of the variables that are kept.
use Rattle.std.proofs.Common.{◌≡◌, ℕ, zero, suc, ◌^◌, ◌<◌, ◌≤◌, ℤ, pos, negsuc, ◌-ℤ◌, unsigned_abs, Bool, true, false, true≢false, cond, List, [], ◌∷◌, ◌++◌, length, map, refl, sym, ◌∙◌, subst, arith}
use Rattle.std.specs.List.{AllByRecursion}
use Rattle.std.specs.Ordering.{int_eq}
use Rattle.std.proofs.lemmas.Bool.Decides.{Decides-int_eq}
use Rattle.std.proofs.lemmas.Int.{ints}
use Rattle.std.proofs.lemmas.List.{append-nil, map-append}
use Rattle.std.proofs.lemmas.List.Elements.{All-from_recursion}
use Rattle.policy_tree.specs.declared.trees.Cmp.{Cmp}
use Rattle.policy_tree.specs.declared.trees.Cmp.TheVariants as cmp
use Rattle.policy_tree.specs.declared.typed.Load.{Load}
use Rattle.policy_tree.specs.Trees.{CondTree, minus}
use Rattle.policy_eval.specs.Forms.{EachSide, IsLinear}
use Rattle.policy_eval.specs.Resolved.{IsWeightRange}
use Rattle.linear_form.specs.declared.form.Term.{Term}
use Rattle.linear_form.specs.declared.form.Row.{Row}
use Rattle.linear_form.specs.System.{IsRow}
use Rattle.linear_form.proofs.Build.{IsRow-nil, IsRow-push, row_of}
use Rattle.obligations.specs.CodeForms.{FitsRow}
use Rattle.obligations.specs.Cases.{cases_of, cases_of_test}
use Rattle.obligations.specs.Forms.{LinearForm, at_most, form_of, opposite, term_of, terms_below}
use Rattle.obligations.specs.Systems.{kept_below, place_of, placed}
use Rattle.obligations.proofs.Fitting.{form_of-fits, opposite-fits}
use Rattle.obligations.proofs.Kept.{IsKept, place_inside}
use Rattle.obligations.proofs.Occurring.{AllRows, HasKept, all_rows, terms_below-below}

module _ (keeps : ℕ → Bool) where
  there : Term → Term
  there term = record { var = place_of keeps term.var; coef = term.coef }

  -- places of lesser variables are lesser
  below_place : (n : ℕ) (terms : List Term) → AllByRecursion (λ (term : Term). IsKept keeps n term.var) terms → AllByRecursion (λ (t : Term). t.var < place_of keeps n) (map there terms)
  unfolding there
  below_place n [] kept = tt
  below_place n (term ∷ terms) kept = (place_inside keeps n term.var kept.0.1 kept.0.0, below_place n terms kept.1)

  kept_front : (n : ℕ) (xs ys : List Term) → AllByRecursion (λ (term : Term). IsKept keeps n term.var) (xs ++ ys) → AllByRecursion (λ (term : Term). IsKept keeps n term.var) xs
  kept_front n [] ys kept = tt
  kept_front n (x ∷ xs) ys kept = (kept.0, kept_front n xs ys kept.1)

  kept_back : (n : ℕ) (xs ys : List Term) → AllByRecursion (λ (term : Term). IsKept keeps n term.var) (xs ++ ys) → AllByRecursion (λ (term : Term). IsKept keeps n term.var) ys
  kept_back n [] ys kept = kept
  kept_back n (x ∷ xs) ys kept = kept_back n xs ys kept.1

  -- kept among those that there are, and below a number
  narrowed : (c : ℕ → ℤ) (n : ℕ) → n ≤ 30 → AllByRecursion (λ (term : Term). IsKept keeps 30 term.var) (terms_below c n) → AllByRecursion (λ (term : Term). IsKept keeps n term.var) (terms_below c n)
  narrowed c n le kept = both (terms_below c n) kept (terms_below-below c n)
    where
      both : (terms : List Term) → AllByRecursion (λ (term : Term). IsKept keeps 30 term.var) terms → AllByRecursion (λ (term : Term). term.var < n) terms
          → AllByRecursion (λ (term : Term). IsKept keeps n term.var) terms
      both [] kept below = tt
      both (term ∷ terms) kept below = ((kept.0.0, below.0), both terms kept.1 below.1)

  module _ (c : ℕ → ℤ) (bound : ℤ) (small_bound : unsigned_abs bound ≤ 2 ^ 62) (small : (v : ℕ) → v < 30 → unsigned_abs (c v) ≤ 2 ^ 42) where
    count : ℕ
    count = length (kept_below keeps 30)

    one_more : (n : ℕ) → n < 30 → (front : List Term) → (b : Bool) → int_eq (c n) (pos 0) ≡ b
        → AllByRecursion (λ (term : Term). IsKept keeps n term.var) front
        → AllByRecursion (λ (term : Term). IsKept keeps 30 term.var) (cond b [] (record { var = n; coef = c n } ∷ []))
        → IsRow count (row_of (map there front) bound) → IsRow count (row_of (map there (front ++ cond b [] (record { var = n; coef = c n } ∷ []))) bound)
    unfolding there count
    one_more n lt front true e kept last row = subst (λ (ts : List Term). IsRow (length (kept_below keeps 30)) (row_of (map there ts) bound)) (sym (append-nil front)) row
    one_more n lt front false e kept last row =
        subst (λ (ts : List Term). IsRow (length (kept_below keeps 30)) (row_of ts bound)) (sym (map-append there front (record { var = n; coef = c n } ∷ [])))
        (IsRow-push (length (kept_below keeps 30)) (map there front) bound (record { var = place_of keeps n; coef = c n }) row
        (record {
          known = place_inside keeps 30 n lt last.0.0;
          nonzero = λ zero. nonzero zero;
          small = small n lt;
        })
        (All-from_recursion (λ (t : Term). t.var < place_of keeps n) (map there front) (below_place n front kept)))
      where
        nonzero : c n ≡ pos 0 → ⊥
        nonzero is = true≢false (sym ((Decides-int_eq (c n) (pos 0)).1 is) ∙ e)

    placed_terms : (n : ℕ) → n ≤ 30 → AllByRecursion (λ (term : Term). IsKept keeps 30 term.var) (terms_below c n) → IsRow count (row_of (map there (terms_below c n)) bound)
    unfolding count
    placed_terms zero le kept = IsRow-nil (length (kept_below keeps 30)) bound small_bound
    placed_terms (suc n) le kept =
        let front = kept_front 30 (terms_below c n) (term_of n (c n)) kept in
        one_more n (omega (arith, le)) (terms_below c n) (int_eq (c n) (pos 0)) refl
        (narrowed c n (omega (arith, le)) front) (kept_back 30 (terms_below c n) (term_of n (c n)) kept)
        (placed_terms n (omega (arith, le)) front)

  -- where its variables are kept, the row over their places is one of a system
  abbrev pub FitsPlaces : Row → Type 0
  FitsPlaces row = HasKept keeps 30 row → IsRow (length (kept_below keeps 30)) (placed keeps row)

  at_most-fits : (d : LinearForm) (most : ℤ) → unsigned_abs most ≤ 1 → FitsRow d → FitsPlaces (at_most d most)
  unfolding at_most there count
  at_most-fits d most small fits kept =
      placed_terms d.coefficient (most -ℤ d.constant) (let bound = fits.constant in omega (arith, ints)) fits.coefficients 30 (omega arith) kept

  test_rows_fit : (how : Cmp) (d : LinearForm) → FitsRow d → AllRows FitsPlaces (cases_of_test how d)
  test_rows_fit cmp.Le d fits = ((at_most-fits d (pos 0) (omega (arith, ints)) fits, tt), tt)
  test_rows_fit cmp.Lt d fits = ((at_most-fits d (negsuc 0) (omega (arith, ints)) fits, tt), tt)
  test_rows_fit cmp.Ge d fits = ((at_most-fits (opposite d) (pos 0) (omega (arith, ints)) (opposite-fits d fits), tt), tt)
  test_rows_fit cmp.Gt d fits = ((at_most-fits (opposite d) (negsuc 0) (omega (arith, ints)) (opposite-fits d fits), tt), tt)
  test_rows_fit cmp.Eq d fits =
      ((at_most-fits d (pos 0) (omega (arith, ints)) fits, (at_most-fits (opposite d) (pos 0) (omega (arith, ints)) (opposite-fits d fits), tt)), tt)
  test_rows_fit cmp.Ne d fits =
      ((at_most-fits d (negsuc 0) (omega (arith, ints)) fits, tt), ((at_most-fits (opposite d) (negsuc 0) (omega (arith, ints)) (opposite-fits d fits), tt), tt))

  pub rows_fit : (load : Load) → IsWeightRange load → (outcome : Bool) (c : CondTree) → EachSide IsLinear c → AllRows FitsPlaces (cases_of load outcome c)
  rows_fit load weights outcome c sides =
      all_rows FitsPlaces load IsLinear (λ how l r left right. test_rows_fit how (form_of load (minus l r)) (form_of-fits load weights l r left right)) outcome c sides

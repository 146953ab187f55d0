-- Two tests that agree on all variables that there are keep the same variables, in the same places.
use Rattle.std.proofs.Common.{◌≡◌, ℕ, zero, suc, ◌<◌, Bool, List, [], ◌∷◌, ◌++◌, length, map, get_or, cond, refl, ap, ap₂, ◌∙◌, arith}
use Rattle.std.specs.List.{AllByRecursion}
use Rattle.linear_form.specs.declared.form.Term.{Term}
use Rattle.linear_form.specs.declared.form.Row.{Row}
use Rattle.obligations.specs.Marks.{HasSmallTerms, placed_by}
use Rattle.obligations.specs.Systems.{kept_below, place_of, placed}

pub same_kept : (keeps others : ℕ → Bool) (n : ℕ) → ((v : ℕ) → v < n → keeps v ≡ others v) → kept_below keeps n ≡ kept_below others n
same_kept keeps others zero same = refl
same_kept keeps others (suc n) same =
    ap₂ (λ xs b. xs ++ cond b (n ∷ []) []) (same_kept keeps others n (λ v lt. same v (omega (arith, lt)))) (same n (omega arith))

-- the term with its variable in another place
abbrev moved : (ℕ → ℕ) → Term → Term
moved f term = record { var = f term.var; coef = term.coef }

module _ (places : List ℕ) (keeps others : ℕ → Bool) (same : (v : ℕ) → v < 30 → keeps v ≡ others v) (each : (v : ℕ) → v < 30 → get_or places v 0 ≡ place_of keeps v) where
  same_place : (v : ℕ) → v < 30 → get_or places v 0 ≡ place_of others v
  same_place v lt = each v lt ∙ ap length (same_kept keeps others v (λ u below. same u (omega (arith, lt, below))))

  same_terms : (terms : List Term) → AllByRecursion (λ (term : Term). term.var < 30) terms
      → map (moved (λ v. get_or places v 0)) terms ≡ map (moved (place_of others)) terms
  same_terms [] small = refl
  same_terms (term ∷ terms) small = ap₂ with_place (same_place term.var small.0) (same_terms terms small.1)
    where
      with_place : ℕ → List Term → List Term
      with_place v rest = record { var = v; coef = term.coef } ∷ rest

  same_row : (row : Row) → HasSmallTerms row → placed_by places row ≡ placed others row
  same_row row small = ap with_terms (same_terms row.terms small)
    where
      with_terms : List Term → Row
      with_terms terms = record { terms = terms; bound = row.bound }

  -- the rows are placed as the definition says
  pub same_rows : (rows : List Row) → AllByRecursion HasSmallTerms rows → map (placed_by places) rows ≡ map (placed others) rows
  same_rows [] small = refl
  same_rows (row ∷ rows) small = ap₂ (λ x xs. x ∷ xs) (same_row row small.0) (same_rows rows small.1)

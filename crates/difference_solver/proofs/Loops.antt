-- The loops of a step: what has been passed so far, and what is still as it was.
use Rattle.std.proofs.Common.{◌≡◌, ℕ, ◌+◌, ◌<◌, ◌≤◌, inl, inr, sym, subst, ◌∙◌, refl, arith}
use Rattle.std.proofs.lemmas.Bool.{cases_eq, cases_lt}
use Rattle.difference_solver.specs.Distances.{Table, Puts, between}
use Rattle.difference_solver.specs.Passing.{passed, PassesFrom}
use Rattle.difference_solver.proofs.Steps.{to_middle, from_middle, same_passed}

-- of the distances from one node those to the first nodes have been passed
pub record PassedTo (middle from to : ℕ) (old now : Table) : Type 0 where
  pub size : now.size ≡ old.size
  pub before : (j : ℕ) → j < to → j < old.size → between now from j ≡ passed middle old from j
  pub after : (j : ℕ) → to ≤ j → j < old.size → between now from j ≡ between old from j
  pub others : (i j : ℕ) → i < old.size → j < old.size → (i ≡ from → ⊥) → between now i j ≡ between old i j

module _ (middle from to : ℕ) (old now : Table) (so_far : PassedTo middle from to old now) (lm : middle < old.size) (lf : from < old.size) where
  own_to_middle : between now from middle ≡ between old from middle
  own_to_middle = elim (cases_lt middle to) [
    | inl below ↦ so_far.before middle below lm ∙ to_middle middle old from
    | inr past ↦ so_far.after middle past lm
  ]

  own_from_middle : (j : ℕ) → j < old.size → middle ≡ from → between now middle j ≡ between old middle j
  own_from_middle j lj same = elim (cases_lt j to) [
    | inl below ↦
        let here : between now from j ≡ between old from j = so_far.before j below lj ∙ subst (λ m. passed m old from j ≡ between old from j) (sym same ∙ refl) (from_middle from old j) in
        subst (λ m. between now m j ≡ between old m j) (sym same) here
    | inr past ↦ subst (λ m. between now m j ≡ between old m j) (sym same) (so_far.after j past lj)
  ]

  pub still_to : (i : ℕ) → i < old.size → between now i middle ≡ between old i middle
  still_to i li = elim (cases_eq i from) [
    | inl same ↦ subst (λ m. between now m middle ≡ between old m middle) (sym same) own_to_middle
    | inr other ↦ so_far.others i middle li lm other
  ]

  pub still_from : (j : ℕ) → j < old.size → between now middle j ≡ between old middle j
  still_from j lj = elim (cases_eq middle from) [
    | inl same ↦ own_from_middle j lj same
    | inr other ↦ so_far.others middle j lm lj other
  ]

  -- one more
  pub one_to : (new : Table) → to < old.size → Puts now new from to (passed middle now from to) → PassedTo middle from (to + 1) old new
  one_to new lt put = record {
    size = put.size ∙ so_far.size;
    before = λ j below lj. elim (cases_eq j to) [
      | inl same ↦ subst (λ k. between new from k ≡ passed middle old from k) (sym same) (put.here ∙ same_passed middle now old from to (still_to from lf) (still_from to lt) (so_far.after to (omega arith) lt))
      | inr other ↦ put.others from j (omega arith) (omega arith) (λ _ same. other same) ∙ so_far.before j (omega arith) lj
    ];
    after = λ j past lj. put.others from j (omega arith) (omega arith) (λ _ same. omega arith) ∙ so_far.after j (omega arith) lj;
    others = λ i j li lj other. put.others i j (omega arith) (omega arith) (λ same _. other same) ∙ so_far.others i j li lj other;
  }

-- the distances from the first nodes have been passed
pub record PassedFrom (middle from : ℕ) (old now : Table) : Type 0 where
  pub size : now.size ≡ old.size
  pub before : (i j : ℕ) → i < from → i < old.size → j < old.size → between now i j ≡ passed middle old i j
  pub after : (i j : ℕ) → from ≤ i → i < old.size → j < old.size → between now i j ≡ between old i j

module _ (middle from : ℕ) (old now : Table) (so_far : PassedFrom middle from old now) (lm : middle < old.size) where
  pub rows_to : (i : ℕ) → i < old.size → between now i middle ≡ between old i middle
  rows_to i li = elim (cases_lt i from) [
    | inl below ↦ so_far.before i middle below li lm ∙ to_middle middle old i
    | inr past ↦ so_far.after i middle past li lm
  ]

  pub rows_from : (j : ℕ) → j < old.size → between now middle j ≡ between old middle j
  rows_from j lj = elim (cases_lt middle from) [
    | inl below ↦ so_far.before middle j below lm lj ∙ from_middle middle old j
    | inr past ↦ so_far.after middle j past lm lj
  ]

  -- one more
  pub one_from : (new : Table) → from < old.size → PassesFrom from middle now new → PassedFrom middle (from + 1) old new
  one_from new lf row = record {
    size = row.size ∙ so_far.size;
    before = λ i j below li lj. elim (cases_eq i from) [
      | inl same ↦ subst (λ k. between new k j ≡ passed middle old k j) (sym same) (row.here j (omega arith) ∙ same_passed middle now old from j (rows_to from lf) (rows_from j lj) (so_far.after from j (omega arith) lf lj))
      | inr other ↦ row.others i j (omega arith) (omega arith) other ∙ so_far.before i j (omega arith) li lj
    ];
    after = λ i j past li lj. row.others i j (omega arith) (omega arith) (λ same. omega arith) ∙ so_far.after i j (omega arith) li lj;
  }

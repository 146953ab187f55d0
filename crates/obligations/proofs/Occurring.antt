-- What holds of the rows of comparisons holds of the rows of a condition's cases; and which variables occur in them.
use Rattle.std.proofs.Common.{◌≡◌, ℕ, zero, suc, ◌<◌, eqb, ℤ, pos, negsuc, Bool, true, false, not, cond, List, [], ◌∷◌, ◌++◌, map, refl, arith, eq-eqb}
use Rattle.std.specs.List.{AllByRecursion, list_any}
use Rattle.std.specs.Ordering.{int_eq}
use Rattle.policy_tree.specs.declared.trees.Cmp.{Cmp}
use Rattle.policy_tree.specs.declared.trees.Cmp.TheVariants as cmp
use Rattle.policy_tree.specs.declared.typed.Load.{Load}
use Rattle.policy_tree.specs.Trees.{ExprTree, minus, CondTree, always, negated, both, either, test}
use Rattle.policy_eval.specs.Forms.{EachSide}
use Rattle.linear_form.specs.declared.form.Term.{Term}
use Rattle.linear_form.specs.declared.form.Row.{Row}
use Rattle.obligations.specs.Forms.{LinearForm, at_most, form_of, opposite, term_of, terms_below}
use Rattle.obligations.specs.Cases.{asked, cases_of, cases_of_test, crossed}
use Rattle.obligations.specs.Systems.{occurs}
use Rattle.obligations.proofs.Tests.{or_left, or_right}
use Rattle.obligations.proofs.Kept.{AllByRecursion-append, AllByRecursion-mono, IsKept}

-- the property holds of each row of each case
abbrev pub AllRows : (Row → Type 0) → List (List Row) → Type 0
AllRows P cases = AllByRecursion (AllByRecursion P) cases

module _ (P : Row → Type 0) where
  prefixed_rows : (rows : List Row) (right : List (List Row)) → AllByRecursion P rows → AllRows P right → AllRows P (map (λ more. rows ++ more) right)
  prefixed_rows rows [] front all = tt
  prefixed_rows rows (more ∷ right) front all = (AllByRecursion-append P rows more front all.0, prefixed_rows rows right front all.1)

  pub crossed_rows : (left right : List (List Row)) → AllRows P left → AllRows P right → AllRows P (crossed left right)
  crossed_rows [] right all others = tt
  crossed_rows (rows ∷ left) right all others =
      AllByRecursion-append (AllByRecursion P) (map (λ more. rows ++ more) right) (crossed left right)
      (prefixed_rows rows right all.0 others) (crossed_rows left right all.1 others)

  pub joined_rows : (left right : List (List Row)) → AllRows P left → AllRows P right → AllRows P (left ++ right)
  joined_rows left right = AllByRecursion-append (AllByRecursion P) left right

  module _ (load : Load) (Q : ExprTree → Type 0) (each : (how : Cmp) (l r : ExprTree) → Q l → Q r → AllRows P (cases_of_test how (form_of load (minus l r)))) where
    -- the rows of all cases of a condition
    pub all_rows : (outcome : Bool) (c : CondTree) → EachSide Q c → AllRows P (cases_of load outcome c)
    all_rows true always sides = (tt, tt)
    all_rows false always sides = tt
    all_rows outcome (negated c) sides = all_rows (not outcome) c sides
    all_rows true (both l r) sides = crossed_rows (cases_of load true l) (cases_of load true r) (all_rows true l sides.0) (all_rows true r sides.1)
    all_rows false (both l r) sides = joined_rows (cases_of load false l) (cases_of load false r) (all_rows false l sides.0) (all_rows false r sides.1)
    all_rows true (either l r) sides = joined_rows (cases_of load true l) (cases_of load true r) (all_rows true l sides.0) (all_rows true r sides.1)
    all_rows false (either l r) sides = crossed_rows (cases_of load false l) (cases_of load false r) (all_rows false l sides.0) (all_rows false r sides.1)
    all_rows outcome (test how l r) sides = each (asked outcome how) l r sides.0 sides.1

  -- the rows of a comparison
  pub test_rows : ((d : LinearForm) (most : ℤ) → P (at_most d most)) → (how : Cmp) (d : LinearForm) → AllRows P (cases_of_test how d)
  test_rows row cmp.Le d = ((row d (pos 0), tt), tt)
  test_rows row cmp.Lt d = ((row d (negsuc 0), tt), tt)
  test_rows row cmp.Ge d = ((row (opposite d) (pos 0), tt), tt)
  test_rows row cmp.Gt d = ((row (opposite d) (negsuc 0), tt), tt)
  test_rows row cmp.Eq d = ((row d (pos 0), (row (opposite d) (pos 0), tt)), tt)
  test_rows row cmp.Ne d = ((row d (negsuc 0), tt), ((row (opposite d) (negsuc 0), tt), tt))

-- each term of a row is one of a variable below that number
abbrev pub IsBelow : ℕ → Row → Type 0
IsBelow n row = AllByRecursion (λ (term : Term). term.var < n) row.terms

pub terms_below-below : (c : ℕ → ℤ) (n : ℕ) → AllByRecursion (λ (term : Term). term.var < n) (terms_below c n)
terms_below-below c zero = tt
terms_below-below c (suc n) =
    let Earlier : Term → Type 0 = λ term. term.var < n in let Below : Term → Type 0 = λ term. term.var < suc n in
    AllByRecursion-append Below (terms_below c n) (term_of n (c n))
    (AllByRecursion-mono Earlier Below (λ term lt. omega (arith, lt)) (terms_below c n) (terms_below-below c n))
    (by (int_eq (c n) (pos 0)))
  where
    by : (b : Bool) → AllByRecursion (λ (term : Term). term.var < suc n) (cond b [] (record { var = n; coef = c n } ∷ []))
    by true = tt
    by false = (omega arith, tt)

-- the rows of a condition's cases are rows over the variables that there are
pub cases_below : (load : Load) (outcome : Bool) (c : CondTree) → AllRows (IsBelow 30) (cases_of load outcome c)
unfolding at_most
cases_below load outcome c =
    all_rows (IsBelow 30) load (λ e. Unit {0})
    (λ how l r left right. test_rows (IsBelow 30) (λ d most. terms_below-below d.coefficient 30) how (form_of load (minus l r)))
    outcome c (every c)
  where
    every : (c : CondTree) → EachSide (λ e. Unit {0}) c
    every always = tt
    every (negated c) = every c
    every (both l r) = (every l, every r)
    every (either l r) = (every l, every r)
    every (test how l r) = (tt, tt)

-- each term of the row is one of a kept variable
abbrev pub HasKept : (ℕ → Bool) → ℕ → Row → Type 0
HasKept keeps n row = AllByRecursion (λ (term : Term). IsKept keeps n term.var) row.terms

module _ (keeps : ℕ → Bool) (n : ℕ) where
  kept_terms : (terms : List Term) → ((v : ℕ) → list_any (λ (term : Term). eqb term.var v) terms ≡ true → keeps v ≡ true)
      → AllByRecursion (λ (term : Term). term.var < n) terms → AllByRecursion (λ (term : Term). IsKept keeps n term.var) terms
  kept_terms [] found below = tt
  kept_terms (term ∷ terms) found below = (
    (found term.var (or_left (eqb term.var term.var) _ (eq-eqb term.var term.var refl)), below.0),
    kept_terms terms (λ v e. found v (or_right (eqb term.var v) _ e)) below.1,
  )

  kept_rows : (rows : List Row) → ((v : ℕ) → list_any (λ (row : Row). list_any (λ (term : Term). eqb term.var v) row.terms) rows ≡ true → keeps v ≡ true)
      → AllByRecursion (IsBelow n) rows → AllByRecursion (HasKept keeps n) rows
  kept_rows [] found below = tt
  kept_rows (row ∷ rows) found below = (
    kept_terms row.terms (λ v e. found v (or_left _ _ e)) below.0,
    kept_rows rows (λ v e. found v (or_right _ _ e)) below.1,
  )

  -- where the variables that occur are kept, the terms of all rows are of kept ones
  pub kept_cases : (cases : List (List Row)) → ((v : ℕ) → occurs v cases ≡ true → keeps v ≡ true) → AllRows (IsBelow n) cases → AllRows (HasKept keeps n) cases
  kept_cases [] found below = tt
  kept_cases (rows ∷ cases) found below = (
    kept_rows rows (λ v e. found v (or_left _ _ e)) below.0,
    kept_cases cases (λ v e. found v (or_right _ _ e)) below.1,
  )

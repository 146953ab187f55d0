-- The coefficient of a variable in rising terms: that of its one term.
use Rattle.std.proofs.Common.{◌≡◌, ◌≢◌, ℕ, zero, suc, ◌<◌, List, [], ◌∷◌, length, get_or, map, ◌==◌, if◌then◌else◌, ℤ, pos, ◌∙◌, refl, arith}
use Rattle.std.specs.List.Sorted.{IsStrictlyIncreasing}
use Rattle.std.proofs.lemmas.Int.{ints}
use Rattle.std.proofs.lemmas.List.{get_or-map, length-map}
use Rattle.std.proofs.lemmas.Map.Keys.{sorted_from_strictly_increasing, below_from_sorted}
use Rattle.std.proofs.lemmas.Bool.Decides.{nat_tests}
use Rattle.linear_form.specs.declared.form.Term.{Term}
use Rattle.linear_form.specs.Sum.{sum_over}
use Rattle.linear_cert.specs.Columns.{coefficient}

-- a test that fails, and one that passes
pub pick_other : (a b : ℕ) (x : ℤ) → a ≢ b → (if a == b then x else pos 0) ≡ pos 0
pick_other a b x ne = grind (arith, nat_tests)

pub pick_same : (a b : ℕ) (x : ℤ) → a ≡ b → (if a == b then x else pos 0) ≡ x
pick_same a b x same = grind (arith, nat_tests)

-- a sum of zeros
pub sum_over_none : {X : Type 0} (f : X → ℤ) (xs : List X) (d : X) → ((k : ℕ) → k < length xs → f (get_or xs k d) ≡ pos 0) → sum_over f xs ≡ pos 0
sum_over_none f [] d none = refl
sum_over_none f (x ∷ xs) d none =
    let rest = sum_over_none f xs d (λ k lt. none (suc k) (omega arith)) in
    omega (arith, ints, rest, none 0 (omega arith))

-- a sum of zeros and one more number
pub sum_over_one : {X : Type 0} (f : X → ℤ) (xs : List X) (i : ℕ) (d : X) → i < length xs → ((k : ℕ) → k < length xs → k ≢ i → f (get_or xs k d) ≡ pos 0) → sum_over f xs ≡ f (get_or xs i d)
sum_over_one f [] i d lt others = absurd (omega arith)
sum_over_one f (x ∷ xs) zero d lt others =
    let rest = sum_over_none f xs d (λ k kl. others (suc k) (omega arith) (omega arith)) in
    omega (arith, ints, rest)
sum_over_one f (x ∷ xs) (suc i) d lt others =
    let rest = sum_over_one f xs i d (omega arith) (λ k kl ne. others (suc k) (omega arith) (omega arith)) in
    omega (arith, ints, rest, others 0 (omega arith) (omega arith))

abbrev var_of : Term → ℕ
var_of term = term.var

-- a later term of rising variables has a greater one
var_below : (terms : List Term) (i k : ℕ) (d : Term) → IsStrictlyIncreasing (map var_of terms) → i < k → k < length terms → (get_or terms i d).var < (get_or terms k d).var
var_below terms i k d rising lt lk =
    let sorted = sorted_from_strictly_increasing (map var_of terms) rising in
    let at = λ (j : ℕ) (lj : j < length terms). get_or-map var_of terms j d 0 lj in
    omega (arith, below_from_sorted (map var_of terms) i k 0 sorted lt (omega (arith, length-map terms var_of)), at i (omega arith), at k lk)

-- two terms of rising variables have different ones
pub vars_differ : (terms : List Term) (i k : ℕ) (d : Term) → IsStrictlyIncreasing (map var_of terms) → i < length terms → k < length terms → k ≢ i → (get_or terms k d).var ≢ (get_or terms i d).var
vars_differ terms i k d rising li lk ne same =
    let below : k < i → ⊥ = λ lt. omega (arith, var_below terms k i d rising lt li) in
    let above : i < k → ⊥ = λ lt. omega (arith, var_below terms i k d rising lt lk) in
    omega (arith, below, above)

-- the term of the variable has its coefficient
pub coefficient_found : (terms : List Term) (i : ℕ) (d : Term) → IsStrictlyIncreasing (map var_of terms) → i < length terms → coefficient (get_or terms i d).var terms ≡ (get_or terms i d).coef
coefficient_found terms i d rising li =
    let v = (get_or terms i d).var in
    sum_over_one (λ (term : Term). if term.var == v then term.coef else pos 0) terms i d li
    (λ k lk ne. pick_other (get_or terms k d).var v _ (vars_differ terms i k d rising li lk ne))
    ∙ pick_same v v _ refl

-- a variable that no term has
pub coefficient_none : (variable : ℕ) (terms : List Term) (d : Term) → ((k : ℕ) → k < length terms → (get_or terms k d).var ≢ variable) → coefficient variable terms ≡ pos 0
coefficient_none variable terms d none =
    sum_over_none (λ (term : Term). if term.var == variable then term.coef else pos 0) terms d (λ k lt. pick_other (get_or terms k d).var variable _ (none k lt))

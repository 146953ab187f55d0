-- Differences of numbers far below what 128 bits hold, as the code computes them, and what it asks about.
use Rattle.std.proofs.Common.{◌≡◌, ℕ, zero, suc, ◌*◌, ◌^◌, ◌<◌, ◌≤◌, ℤ, pos, ◌-ℤ◌, replicate, ap, ap₂, subst, sym, ◌∙◌, arith, unsigned_abs, FitsSigned}
use Rattle.std.specs.Int.{w128}
use Rattle.std.proofs.lemmas.Int.{ints, fits_signed_from_abs, to_z-of_z}
use Rattle.sched_base.specs.declared.limits.TheConstants.{MAX_ATTRIBUTE, MAX_LOAD, MAX_THREADS}
use Rattle.policy_tree.specs.Trees.{ExprTree, minus}
use Rattle.policy_eval.specs.Forms.{IsLinear}
use Rattle.policy_eval.specs.Ranges.{AreIn, IsIn, range, wide_ranges, within}
use Rattle.policy_eval.specs.Sights.{pair_values}
use Rattle.policy_eval.specs.Values.{Assignment, value_of}
use Rattle.policy_eval.proofs.Bounds.{value_below}
use Rattle.policy_eval.proofs.Operations.{read}
use Rattle.rest_bounds.specs.Following.{with_load}

-- the number fits, is read back as that value, and is below the magnitude
pub record Computed (m : ℕ) (z x : ℤ) : Type 0 where
  pub fits : FitsSigned w128 z
  pub gives : read z ≡ x
  pub small : unsigned_abs (read z) < m

computed : (m : ℕ) → m ≤ 2 ^ 101 → (z x : ℤ) → z ≡ x → unsigned_abs x < m → Computed m z x
computed m far z x is below =
    let same : unsigned_abs z ≡ unsigned_abs x = ap unsigned_abs is in
    let fits : FitsSigned w128 z = fits_signed_from_abs w128 z (omega arith) in
    let gives : read z ≡ x = to_z-of_z w128 z fits ∙ is in
    record { fits = fits; gives = gives; small = subst (λ y. unsigned_abs y < m) (sym gives) below }

taken : (m : ℕ) → m ≤ 2 ^ 100 → (a b x y : ℤ) → a ≡ x → b ≡ y → unsigned_abs x < m → unsigned_abs y < m → Computed (2 * m) (read a -ℤ read b) (x -ℤ y)
taken m far a b x y a_is b_is a_below b_below =
    let first = (computed m (omega arith) a x a_is a_below).gives in
    let second = (computed m (omega arith) b y b_is b_below).gives in
    computed (2 * m) (omega arith) (read a -ℤ read b) (x -ℤ y) (ap₂ (λ n k. n -ℤ k) first second) (omega (arith, ints))

-- the values of two linear expressions, one less the other
pub value_taken : (l r : ExprTree) → IsLinear l → IsLinear r → (values : Assignment) → AreIn wide_ranges values → (a b : ℤ) → a ≡ value_of values l → b ≡ value_of values r
    → Computed (2 ^ 77) (read a -ℤ read b) (value_of values (minus l r))
value_taken l r left right values wide a b a_is b_is =
    taken (2 ^ 76) (omega arith) a b (value_of values l) (value_of values r) a_is b_is (value_below l left values wide) (value_below r right values wide)

zeros_fit : (n : ℕ) → AreIn (replicate n (within MAX_ATTRIBUTE)) (replicate n (pos 0))
zeros_fit zero = tt
zeros_fit (suc n) = (record { above = omega (arith, ints); below = omega (arith, ints) }, zeros_fit n)

count_in : (high n : ℕ) → n ≤ high → IsIn (range (pos 0) (pos high)) (pos n)
count_in high n below = record { above = omega (arith, ints); below = omega (arith, ints) }

-- what the filter sees of two cores without attributes lies in the wide ranges
pub pair_wide : (nr load victim_nr victim_load : ℕ) → nr ≤ MAX_THREADS → load ≤ MAX_LOAD → victim_nr ≤ MAX_THREADS → victim_load ≤ MAX_LOAD
    → AreIn wide_ranges (pair_values (with_load nr load) (with_load victim_nr victim_load))
unfolding wide_ranges pair_values
pair_wide nr load victim_nr victim_load a b c d = (
  count_in MAX_THREADS nr a,
  (
    count_in MAX_LOAD load b,
    (
      count_in MAX_THREADS victim_nr c,
      (
        count_in MAX_LOAD victim_load d,
        (
          record { above = omega (arith, ints); below = omega (arith, ints) },
          (count_in 1 0 (omega arith), zeros_fit 24),
        ),
      ),
    ),
  ),
)

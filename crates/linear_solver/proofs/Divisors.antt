-- The greatest common divisor, found from above, is the one that Euclid's steps keep.
use Rattle.std.proofs.Common.{◌≡◌, ◌≢◌, ℕ, zero, suc, ◌<◌, ◌≤◌, ◌%◌, ◌==◌, ◌&&◌, true, inl, inr, subst, sym, ◌∙◌, arith}
use Rattle.std.specs.Int.{IsGcd}
use Rattle.std.proofs.lemmas.Nat.Gcd.{mod-eq-zero_of_dvd, dvd_of_mod-eq-zero, le_from_IsGcd, le_of_dvd}
use Rattle.std.proofs.lemmas.Bool.{cases_Bool, and_parts, and_from, eqb-true, eq-eqb, cond-true, cond-false, false≢true}
use Rattle.linear_solver.specs.Sums.{divisor_up_to, gcd}

-- a number that divides both is at most the greatest that does
below_gcd : (k a b g : ℕ) → IsGcd a b g → 0 < g → ((a % k == 0) && (b % k == 0)) ≡ true → k ≤ g
below_gcd k a b g is above both =
    let parts = and_parts (a % k == 0) (b % k == 0) both in
    le_from_IsGcd a b g k is above (dvd_of_mod-eq-zero k (eqb-true (a % k) 0 parts.0)) (dvd_of_mod-eq-zero k (eqb-true (b % k) 0 parts.1))

divides_both : (a b g : ℕ) → IsGcd a b g → ((a % g == 0) && (b % g == 0)) ≡ true
divides_both a b g is =
    and_from (a % g == 0) (b % g == 0) (eq-eqb (a % g) 0 (mod-eq-zero_of_dvd g is.0)) (eq-eqb (b % g) 0 (mod-eq-zero_of_dvd g is.1))

divisor_up_to_is : (most a b g : ℕ) → IsGcd a b g → 0 < g → g ≤ most → divisor_up_to most a b ≡ g
unfolding divisor_up_to
divisor_up_to_is zero a b g is above le = absurd (omega arith)
divisor_up_to_is (suc most) a b g is above le = elim (cases_Bool ((a % suc most == 0) && (b % suc most == 0))) [
  | inl both ↦
      let most_is : suc most ≡ g = omega (arith, below_gcd (suc most) a b g is above both) in
      cond-true _ (suc most) (divisor_up_to most a b) both ∙ most_is
  | inr other ↦
      let differs : g ≢ suc most = λ same. false≢true (sym other ∙ subst (λ k. ((a % k == 0) && (b % k == 0)) ≡ true) same (divides_both a b g is)) in
      cond-false _ (suc most) (divisor_up_to most a b) other ∙ divisor_up_to_is most a b g is above (omega arith)
]

-- what Euclid's steps keep is the greatest common divisor
pub gcd_is : (a b g : ℕ) → IsGcd a b g → 0 < g → 0 < a → g ≡ gcd a b
unfolding gcd
gcd_is a b g is above positive = sym (divisor_up_to_is a a b g is above (le_of_dvd positive is.0))

-- What a queue asks of tasks, shown of small ones.
use Rattle.std.proofs.Common.{◌≤◌, ◌≤ℤ◌, ℕ, zero, suc, ℤ, pos, negsuc, List, [], ◌∷◌, ◌++◌, replicate}
use Rattle.std.proofs.Common.{FitsSigned, w32, to_z, of_z, to_z-of_z, sym, subst, arith}
use Rattle.std.proofs.lemmas.Int.{ints}
use Rattle.sched_base.specs.declared.limits.TheConstants.{MAX_ATTRIBUTE, MAX_LOAD, MAX_THREADS, MAX_WEIGHT}
use Rattle.policy_eval.specs.Ranges.{AreIn, IsIn, Range, range, wide_ranges, within}
use Rattle.policy_eval.specs.Sights.{thread_values}

small_fits : (z : ℤ) → pos 0 ≤ℤ z → z ≤ℤ pos 3 → FitsSigned w32 z
small_fits (pos n) least most = record { sfits = omega (arith, ints) }
small_fits (negsuc n) least most = absurd (omega (arith, ints))

-- a small number is one of an attribute, also as an array keeps it
small_in : (z : ℤ) → pos 0 ≤ℤ z → z ≤ℤ pos 3 → IsIn (within MAX_ATTRIBUTE) (to_z w32 (of_z w32 z))
small_in z least most =
    subst (λ (x : ℤ). IsIn (within MAX_ATTRIBUTE) x) (sym (to_z-of_z (small_fits z least most)))
    (record { above = omega (arith, ints); below = omega (arith, ints) })

-- the first two attributes as an array keeps them, the others 0
abbrev pub kept : ℤ → ℤ → List ℤ
kept first second = to_z w32 (of_z w32 first) ∷ to_z w32 (of_z w32 second) ∷ replicate 6 (pos 0)

number_in : (low high n : ℕ) → low ≤ n → n ≤ high → IsIn (range (pos low) (pos high)) (pos n)
number_in low high n above below = record { above = omega (arith, ints); below = omega (arith, ints) }

-- zeros in front of numbers in their ranges
zeros_in : (n : ℕ) (ranges : List Range) (numbers : List ℤ) → AreIn ranges numbers
    → AreIn (replicate n (within MAX_ATTRIBUTE) ++ ranges) (replicate n (pos 0) ++ numbers)
zeros_in zero ranges numbers rest = rest
zeros_in (suc n) ranges numbers rest =
    (record { above = omega (arith, ints); below = omega (arith, ints) }, zeros_in n ranges numbers rest)

-- a task of a small weight and two small attributes is one that some policy may have
pub small_seen : (weight : ℕ) (first second : ℤ) → 1 ≤ weight → weight ≤ 8 → pos 0 ≤ℤ first → first ≤ℤ pos 3
    → pos 0 ≤ℤ second → second ≤ℤ pos 3 → AreIn wide_ranges (thread_values weight (kept first second))
unfolding wide_ranges thread_values
small_seen weight first second some light first_least first_most second_least second_most =
    let eight : List Range = replicate 8 (within MAX_ATTRIBUTE) in
    let own : AreIn eight (kept first second) =
    (small_in first first_least first_most, (small_in second second_least second_most, zeros_in 6 [] [] tt)) in
    let all = zeros_in 16 eight (kept first second) own in
    let heavy = number_in 1 MAX_WEIGHT weight some (omega arith) in
    (none MAX_THREADS, (none MAX_LOAD, (none MAX_THREADS, (none MAX_LOAD, (heavy, (none 1, all))))))
  where
    none : (high : ℕ) → IsIn (range (pos 0) (pos high)) (pos 0)
    none high = number_in 0 high 0 (omega arith) (omega arith)

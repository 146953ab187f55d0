-- The shares of the workers stand one behind the other, and end at the number of cores.
use Rattle.std.proofs.Common.{◌≡◌, ℕ, zero, suc, ◌+◌, ◌*◌, ◌/◌, ◌<◌, ◌≤◌, ltb, true, false, refl, ap, ◌∙◌, subst, arith}
use Rattle.std.proofs.Math.Nat.{mul-div_cancel_left, zero-div, div-le_of_le-mul, mul-le-mul_right}
use Rattle.std.proofs.lemmas.Bool.Decides.{nat_tests}
use Rattle.std.proofs.lemmas.Nat.{div-add-mod', le-div}
use Rattle.turn_steps.specs.Shares.{OneWorkerLaw, Plays, SharesLaw, first_of}

pub first_is : (cores workers worker : ℕ) → worker * cores / workers ≡ first_of cores workers worker
unfolding first_of
first_is cores workers worker = refl

pub first_within : (cores workers worker : ℕ) → worker ≤ workers → first_of cores workers worker ≤ cores
unfolding first_of
first_within cores workers worker there = div-le_of_le-mul workers (mul-le-mul_right cores there)

pub first_starts : (cores workers : ℕ) → first_of cores workers 0 ≡ 0
unfolding first_of
first_starts cores workers = ap (λ n. n / workers) (let none : 0 * cores ≡ 0 = omega arith in none) ∙ zero-div workers

pub first_ends : (cores workers : ℕ) → 1 ≤ workers → first_of cores workers workers ≡ cores
unfolding first_of
first_ends cores workers some = mul-div_cancel_left cores (omega arith)

pub first_grows : (cores workers one other : ℕ) → 1 ≤ workers → one ≤ other → first_of cores workers one ≤ first_of cores workers other
unfolding first_of
first_grows cores workers one other some more = le-div (one * cores / workers) (other * cores) workers (omega arith)
    (let whole = div-add-mod' (one * cores) workers in let least : one * cores ≤ other * cores = mul-le-mul_right cores more in omega arith)

-- of numbers from one that isn't past the core up to one that is, there is a last that isn't
last_before : (f : ℕ → ℕ) (core n : ℕ) → f 0 ≤ core → core < f n → (w : ℕ) × (w < n) × (f w ≤ core) × (core < f (w + 1))
last_before f core zero first past = absurd (omega arith)
last_before f core (suc n) first past = elim (ltb core (f n)) as (λ b. ltb core (f n) ≡ b → (w : ℕ) × (w < suc n) × (f w ≤ core) × (core < f (w + 1))) [
  | true ↦ λ e. let early : core < f n = grind (arith, nat_tests) in let found = last_before f core n first early in (found.0, omega (arith, found.1), found.2, found.3)
  | false ↦ λ e. let late : f n ≤ core = grind (arith, nat_tests) in (n, omega arith, late, subst (λ k. core < f k) (let next : suc n ≡ n + 1 = omega arith in next) past)
] refl

-- of two workers that play a core none is before the other
none_before : (cores workers core one other : ℕ) → 1 ≤ workers → Plays cores workers one core → Plays cores workers other core → one < other → ⊥
none_before cores workers core one other some first second before =
    let grown = first_grows cores workers (one + 1) other some (omega arith) in let below = first.below in let from = second.from in absurd (omega arith)

pub one_worker : OneWorkerLaw
one_worker cores workers core some low =
    let start = first_starts cores workers in let end = first_ends cores workers some in
    let found = last_before (first_of cores workers) core workers (omega arith) (omega arith) in
    let plays : Plays cores workers found.0 core = record { from = found.2; below = found.3 } in
    record { worker = found.0; there = found.1; plays = plays; only = λ other there also. same found.0 other plays also }
  where
    same : (one other : ℕ) → Plays cores workers one core → Plays cores workers other core → other ≡ one
    same one other first second = elim (ltb one other) as (λ b. ltb one other ≡ b → other ≡ one) [
      | true ↦ λ e. absurd (none_before cores workers core one other some first second (grind (arith, nat_tests)))
      | false ↦ λ e. let least : other ≤ one = grind (arith, nat_tests) in elim (ltb other one) as (λ b. ltb other one ≡ b → other ≡ one) [
        | true ↦ λ f. absurd (none_before cores workers core other one some second first (grind (arith, nat_tests)))
        | false ↦ λ f. let most : one ≤ other = grind (arith, nat_tests) in omega arith
      ] refl
    ] refl

pub share_grows : (cores workers worker : ℕ) → 1 ≤ workers → workers ≤ cores → first_of cores workers worker < first_of cores workers (worker + 1)
unfolding first_of
share_grows cores workers worker some few =
    let next = le-div (worker * cores / workers + 1) ((worker + 1) * cores) workers (omega arith) (let whole = div-add-mod' (worker * cores) workers in omega arith) in omega arith

pub shares : SharesLaw
shares cores workers worker few there = record { from = omega arith; below = share_grows cores workers worker (omega arith) few }

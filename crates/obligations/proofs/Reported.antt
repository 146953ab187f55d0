-- A count is cut at the greatest that is reported after every sum and product, with the same result as at the end.
use Rattle.std.proofs.Common.{◌≡◌, ℕ, zero, suc, ◌+◌, ◌*◌, ◌≤◌, min, leb, Bool, true, false, not, cond, refl, sym, ap, ◌∙◌, arith, ◌⊎◌, inl, inr, ⊎_elim}
use Rattle.std.proofs.Math.Nat.{min-eq_left, min-eq_right, mul_comm, mul_assoc, mul-le-mul, mul-zero, mul-add, add_comm, add_assoc}
use Rattle.std.proofs.lemmas.Bool.Decides.{nat_tests}
use Rattle.obligations.specs.declared.counts.TheConstants.{MAX_COUNT}
use Rattle.policy_tree.specs.Trees.{CondTree, both, either}
use Rattle.obligations.specs.Counts.{count_of, reported}

-- a count is reported as it is, or as the greatest
pub as_is_or_greatest : (n : ℕ) → ((n ≤ MAX_COUNT) × (reported n ≡ n)) ⊎ ((MAX_COUNT ≤ n) × (reported n ≡ MAX_COUNT))
as_is_or_greatest n = by (leb n MAX_COUNT) refl
  where
    by : (b : Bool) → leb n MAX_COUNT ≡ b → ((n ≤ MAX_COUNT) × (reported n ≡ n)) ⊎ ((MAX_COUNT ≤ n) × (reported n ≡ MAX_COUNT))
    by true e = let le : n ≤ MAX_COUNT = grind (arith, nat_tests) in inl (le, min-eq_left le)
    by false e = let le : MAX_COUNT ≤ n = grind (arith, nat_tests) in inr (le, min-eq_right le)

pub reported-small : (n : ℕ) → reported n ≤ MAX_COUNT
reported-small n = ⊎_elim (λ small. omega arith) (λ great. omega arith) (as_is_or_greatest n)

pub reported-of_small : (n : ℕ) → n ≤ MAX_COUNT → reported n ≡ n
reported-of_small n le = min-eq_left le

pub reported-of_great : (n : ℕ) → MAX_COUNT ≤ n → reported n ≡ MAX_COUNT
reported-of_great n le = min-eq_right le

-- a part of a sum that was cut
pub reported-plus : (n m : ℕ) → reported (reported n + m) ≡ reported (n + m)
reported-plus n m =
    ⊎_elim
    (λ small. ap (λ k. reported (k + m)) small.1)
    (λ great. reported-of_great (reported n + m) (omega arith) ∙ sym (reported-of_great (n + m) (omega arith)))
    (as_is_or_greatest n)

times_more : (n m : ℕ) → 1 ≤ m → n ≤ n * m
times_more n m le = let more : n * 1 ≤ n * m = mul-le-mul (omega arith) le in omega (arith, more)

-- a part of a product that was cut
pub reported-times : (n m : ℕ) → reported (reported n * m) ≡ reported (n * m)
reported-times n zero = ap reported (mul-zero (reported n) ∙ sym (mul-zero n))
reported-times n (suc m) =
    ⊎_elim
    (λ small. ap (λ k. reported (k * suc m)) small.1)
    (λ great.
    let first = times_more (reported n) (suc m) (omega arith) in let second = times_more n (suc m) (omega arith) in
    reported-of_great (reported n * suc m) (omega arith) ∙ sym (reported-of_great (n * suc m) (omega arith)))
    (as_is_or_greatest n)

pub reported-times_right : (n m : ℕ) → reported (n * reported m) ≡ reported (n * m)
reported-times_right n m = ap reported (mul_comm n (reported m)) ∙ (reported-times m n ∙ ap reported (mul_comm m n))

-- a link that multiplies
pub worth_multiplied : (times plus scaled n m : ℕ) → scaled ≡ reported (times * m) → reported (scaled * n + plus) ≡ reported (times * (n * m) + plus)
worth_multiplied times plus scaled n m is =
    sym (reported-plus (scaled * n) plus)
    ∙ (ap (λ k. reported (k + plus)) (ap (λ k. reported (k * n)) is ∙ (reported-times (times * m) n ∙ ap reported (mul_assoc times m n ∙ ap (λ k. times * k) (mul_comm m n))))
    ∙ reported-plus (times * (n * m)) plus)

-- a link that adds
pub worth_added : (times plus scaled added n m : ℕ) → scaled ≡ reported (times * m) → added ≡ reported (scaled + plus)
    → reported (times * n + added) ≡ reported (times * (n + m) + plus)
worth_added times plus scaled added n m is more =
    let split = mul-add times n m in
    ap reported (add_comm (times * n) added)
    ∙ (ap (λ k. reported (k + times * n)) more
    ∙ (reported-plus (scaled + plus) (times * n)
    ∙ (ap reported (add_assoc scaled plus (times * n))
    ∙ (ap (λ k. reported (k + (plus + times * n))) is
    ∙ (reported-plus (times * m) (plus + times * n) ∙ ap reported (omega (arith, split)))))))

-- a product with a count that was cut
pub scaled_is : (times count cut m : ℕ) → count ≡ reported m → cut ≡ min count MAX_COUNT → reported (times * cut) ≡ reported (times * m)
scaled_is times count cut m is cuts =
    ap (λ k. reported (times * k)) (cuts ∙ (ap reported is ∙ reported-of_small (reported m) (reported-small m))) ∙ reported-times_right times m

pub count_of_both : (outcome : Bool) (l r : CondTree) → cond outcome (count_of outcome l * count_of outcome r) (count_of outcome l + count_of outcome r) ≡ count_of outcome (both l r)
count_of_both true l r = refl
count_of_both false l r = refl

pub count_of_either : (outcome : Bool) (l r : CondTree) → cond (not outcome) (count_of outcome l * count_of outcome r) (count_of outcome l + count_of outcome r) ≡ count_of outcome (either l r)
count_of_either true l r = refl
count_of_either false l r = refl

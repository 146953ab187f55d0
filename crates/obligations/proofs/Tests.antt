-- Tests of whole numbers, moved from one side to the other.
use Rattle.std.proofs.Common.{◌≡◌, ℤ, pos, negsuc, neg_ℤ, ◌+ℤ◌, ◌-ℤ◌, int_le, int_lt, Bool, true, false, not, ◌&&◌, ◌||◌, ◌≤ℤ◌, ◌⊎◌, inl, inr, refl, arith}
use Rattle.std.specs.Ordering.{int_eq}
use Rattle.std.proofs.lemmas.Int.{ints}

-- a constant that is moved to the other side
pub le_moved : (w k c : ℤ) → int_le w (k -ℤ c) ≡ int_le (c +ℤ w) k
le_moved w k c = grind (arith, ints)

pub le_zero : (x y : ℤ) → int_le (x -ℤ y) (pos 0) ≡ int_le x y
le_zero x y = grind (arith, ints)

pub lt_zero : (x y : ℤ) → int_le (x -ℤ y) (negsuc 0) ≡ int_lt x y
lt_zero x y = grind (arith, ints)

pub ge_zero : (x y : ℤ) → int_le (neg_ℤ (x -ℤ y)) (pos 0) ≡ int_le y x
ge_zero x y = grind (arith, ints)

pub gt_zero : (x y : ℤ) → int_le (neg_ℤ (x -ℤ y)) (negsuc 0) ≡ int_lt y x
gt_zero x y = grind (arith, ints)

pub eq_zero : (x y : ℤ) → (int_le (x -ℤ y) (pos 0) && (int_le (neg_ℤ (x -ℤ y)) (pos 0) && true)) ≡ int_eq x y
eq_zero x y = grind (arith, ints)

pub ne_zero : (x y : ℤ) → (int_le (x -ℤ y) (negsuc 0) || (int_le (neg_ℤ (x -ℤ y)) (negsuc 0) || false)) ≡ not (int_eq x y)
ne_zero x y = grind (arith, ints)

pub le_tells : (x y : ℤ) → int_le x y ≡ true → x ≤ℤ y
le_tells x y e = grind (arith, ints)

pub le_told : (x y : ℤ) → x ≤ℤ y → int_le x y ≡ true
le_told x y le = grind (arith, ints)

pub and_true : (a b : Bool) → (a && b) ≡ true → (a ≡ true) × (b ≡ true)
and_true true b e = (refl, e)
and_true false b e = absurd (cc)

pub true_and : (a b : Bool) → a ≡ true → b ≡ true → (a && b) ≡ true
true_and true b e f = f
true_and false b e f = e

pub or_left : (b c : Bool) → b ≡ true → (b || c) ≡ true
or_left true c e = refl
or_left false c e = absurd (cc)

pub or_right : (b c : Bool) → c ≡ true → (b || c) ≡ true
or_right true c e = refl
or_right false c e = e

pub or_true : (b c : Bool) → (b || c) ≡ true → (b ≡ true) ⊎ (c ≡ true)
or_true true c e = inl refl
or_true false c e = inr e

pub or_false : (b c : Bool) → (b || c) ≡ false → (b ≡ false) × (c ≡ false)
or_false true c e = absurd (cc)
or_false false c e = (refl, e)

pub not_false : (b : Bool) → not b ≡ true → b ≡ false
not_false true e = absurd (cc)
not_false false e = refl

pub not_true : (b : Bool) → not b ≡ false → b ≡ true
not_true true e = refl
not_true false e = absurd (cc)

pub not_refuted : (b : Bool) → (b ≡ true → ⊥) → b ≡ false
not_refuted true refuted = absurd (refuted refl)
not_refuted false refuted = refl

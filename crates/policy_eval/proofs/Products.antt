-- Products of whole numbers over sums and negations. A number is read as the difference of two natural ones.
use Rattle.std.proofs.Common.{◌≡◌, ◌+◌, ◌*◌, ℤ, ◌+ℤ◌, ◌-ℤ◌, ◌*ℤ◌, neg_ℤ, ap, arith, ◌∙◌}
use Rattle.std.proofs.lemmas.Int.{ints}
use borrow.Author.Differences.{up, down}

sum_parts : (a b : ℤ) → up (a +ℤ b) + (down a + down b) ≡ down (a +ℤ b) + (up a + up b)
sum_parts a b = omega (arith, ints)

negated_parts : (a : ℤ) → up (neg_ℤ a) + up a ≡ down (neg_ℤ a) + down a
negated_parts a = omega (arith, ints)

product_parts : (a b : ℤ) → up (a *ℤ b) + (up a * down b + down a * up b) ≡ down (a *ℤ b) + (up a * up b + down a * down b)
product_parts a b = omega (arith, ints)

pub +ℤ-*ℤ : (a b x : ℤ) → (a +ℤ b) *ℤ x ≡ a *ℤ x +ℤ b *ℤ x
+ℤ-*ℤ a b x = omega (arith, ints, ap (λ n. n * up x) (sum_parts a b), ap (λ n. n * down x) (sum_parts a b))

pub *ℤ-+ℤ : (x a b : ℤ) → x *ℤ (a +ℤ b) ≡ x *ℤ a +ℤ x *ℤ b
*ℤ-+ℤ x a b = omega (arith, ints, ap (λ n. up x * n) (sum_parts a b), ap (λ n. down x * n) (sum_parts a b))

pub neg_ℤ-*ℤ : (a x : ℤ) → neg_ℤ a *ℤ x ≡ neg_ℤ (a *ℤ x)
neg_ℤ-*ℤ a x = omega (arith, ints, ap (λ n. n * up x) (negated_parts a), ap (λ n. n * down x) (negated_parts a))

pub -ℤ-*ℤ : (a b x : ℤ) → (a -ℤ b) *ℤ x ≡ a *ℤ x -ℤ b *ℤ x
-ℤ-*ℤ a b x = +ℤ-*ℤ a (neg_ℤ b) x ∙ ap (λ z. a *ℤ x +ℤ z) (neg_ℤ-*ℤ b x)

pub *ℤ_assoc : (k a x : ℤ) → (k *ℤ a) *ℤ x ≡ k *ℤ (a *ℤ x)
*ℤ_assoc k a x =
    omega (arith, ints, ap (λ n. n * up x) (product_parts k a), ap (λ n. n * down x) (product_parts k a), ap (λ n. up k * n) (product_parts a x), ap (λ n. down k * n) (product_parts a x))

-- one side of a product of two sums of three parts
pub product_of_sums : (k d m e : ℤ) → (k +ℤ d) *ℤ (m +ℤ e) ≡ (k *ℤ m +ℤ (k *ℤ e +ℤ d *ℤ m)) +ℤ d *ℤ e
product_of_sums k d m e =
    let split = +ℤ-*ℤ k d (m +ℤ e) in let left = *ℤ-+ℤ k m e in let right = *ℤ-+ℤ d m e in omega (arith, ints)

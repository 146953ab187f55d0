-- The laws of whole numbers that sums of products need.
use Rattle.std.proofs.Common.{◌≡◌, ℕ, ◌+◌, ◌*◌, ℤ, pos, ◌+ℤ◌, ◌*ℤ◌, ◌≤◌, ◌≤ℤ◌, ap, arith, mul-le-mul, le_refl}
use Rattle.std.proofs.lemmas.Int.{ints}
use borrow.Author.Differences.{up, down, same_in, at_most_in, le_out, product_is, sum_is_lem}

-- a sum times a number
pub add-mul : (a b c : ℤ) → (a +ℤ b) *ℤ c ≡ a *ℤ c +ℤ b *ℤ c
add-mul a b c =
    let e = sum_is_lem a b in
    let by = λ (k : ℕ). ap (λ (n : ℕ). n * k) e in
    same_in _ _ (omega (arith, ints, by (up c), by (down c)))

-- the last two factors change places
pub mul_right_comm : (a b c : ℤ) → (a *ℤ b) *ℤ c ≡ (a *ℤ c) *ℤ b
mul_right_comm a b c =
    let ab = product_is a b in
    let ac = product_is a c in
    let by = λ (k : ℕ) (m n : ℕ) (e : m ≡ n). ap (λ (x : ℕ). x * k) e in
    same_in _ _ (omega (arith, product_is (a *ℤ b) c, product_is (a *ℤ c) b, by (up c) _ _ ab.0, by (down c) _ _ ab.1, by (down c) _ _ ab.0, by (up c) _ _ ab.1, by (up b) _ _ ac.0, by (down b) _ _ ac.1, by (down b) _ _ ac.0, by (up b) _ _ ac.1))

-- an order times a number that isn't negative
pub mul_mono : (a b : ℤ) (n : ℕ) → a ≤ℤ b → (a *ℤ pos n) ≤ℤ (b *ℤ pos n)
mul_mono a b n h =
    let le : (up a + down b) * n ≤ (up b + down a) * n = mul-le-mul (le_out a b h) (le_refl n) in
    at_most_in _ _ (omega (arith, product_is a (pos n), product_is b (pos n)))

-- An expression that rises is worth as much to a core with as many threads or fewer, that is as far behind.
use Rattle.std.proofs.Common.{◌≡◌, ℕ, zero, suc, ◌+◌, ◌-◌, ◌*◌, ◌≤◌, ℤ, pos, negsuc, ◌+ℤ◌, ◌*ℤ◌, ◌≤ℤ◌, int_le, true, not, length, refl, sym, ap, ◌∙◌, arith, unsigned_abs}
use Rattle.std.proofs.Math.IntN.{*ℤ-zero, zero-*ℤ}
use Rattle.std.specs.Ordering.{int_eq}
use Rattle.std.proofs.lemmas.Bool.Decides.{Decides-int_eq}
use Rattle.std.proofs.lemmas.Int.{ints, unsigned_abs-mul}
use Rattle.policy_tree.specs.Trees.{ExprTree}
use Rattle.policy_eval.specs.declared.env.CoreValues.{CoreValues}
use Rattle.policy_eval.specs.Sights.{pair_values}
use Rattle.policy_eval.specs.Values.{value_of}
use Rattle.policy_eval.proofs.Products.{+ℤ-*ℤ, *ℤ-+ℤ}
use Rattle.obligations.proofs.Tests.{and_true, le_tells, not_false}
use Rattle.rest_bounds.specs.Following.{asks_attributes, asks_own, growth, is_own_multiple, nobody, own_more, rises, victim_more}
use Rattle.rest_bounds.proofs.Slopes.{HasForm, growth_own, growth_victim, no_rest, own_slope, pair_value, same_rest, victim_slope}

positive_times : (x : ℤ) (n : ℕ) → pos 0 ≤ℤ x → pos 0 ≤ℤ (x *ℤ pos n)
positive_times (pos k) n is = omega (arith, ints)
positive_times (negsuc k) n is = absurd (omega (arith, ints))

negative_times : (x : ℤ) (n : ℕ) → x ≤ℤ pos 0 → (x *ℤ pos n) ≤ℤ pos 0
negative_times (pos zero) n is = omega (arith, ints, zero-*ℤ (pos n))
negative_times (pos (suc k)) n is = absurd (omega (arith, ints))
negative_times (negsuc k) n is = omega (arith, ints)

none_of : (k n : ℕ) → k * suc n ≡ 0 → k ≡ 0
none_of zero n is = refl
none_of (suc k) n is = absurd (omega arith)

-- a product that is 0 is so with fewer threads too
no_product : (x : ℤ) (n m : ℕ) → x *ℤ pos n ≡ pos 0 → m ≤ n → x *ℤ pos m ≡ pos 0
no_product x zero m is fewer = ap (λ k. x *ℤ pos k) (omega arith) ∙ *ℤ-zero x
no_product x (suc n) m is fewer =
    let size = sym (unsigned_abs-mul x (pos (suc n))) ∙ ap unsigned_abs is in
    let none : unsigned_abs x ≡ 0 = none_of (unsigned_abs x) n size in
    let zero_is : x ≡ pos 0 = omega (arith, ints) in
    ap (λ z. z *ℤ pos m) zero_is ∙ zero-*ℤ (pos m)

-- the lower core has as many threads or fewer, and is as far behind the core that it sees as the other behind its
-- victim. All threads weigh the same
pub record AreLower (w : ℕ) (own victim lower seen : CoreValues) : Type 0 where
  pub own_weighs : own.load ≡ own.nr * w
  pub victim_weighs : victim.load ≡ victim.nr * w
  pub lower_weighs : lower.load ≡ lower.nr * w
  pub seen_weighs : seen.load ≡ seen.nr * w
  pub own_long : length own.consts ≡ 8
  pub victim_long : length victim.consts ≡ 8
  pub lower_long : length lower.consts ≡ 8
  pub seen_long : length seen.consts ≡ 8
  pub alike : seen.consts ≡ victim.consts
  pub fewer : lower.nr ≤ own.nr
  pub far : victim.nr + lower.nr ≤ seen.nr + own.nr

-- so many threads fewer of both, and then so many more of the victim
more : (own victim : ℤ) (s v u d f : ℕ) → v + f ≡ u + d → pos 0 ≤ℤ victim → (own +ℤ victim) ≤ℤ pos 0
    → (own *ℤ pos (s + d) +ℤ victim *ℤ pos v) ≤ℤ (own *ℤ pos s +ℤ victim *ℤ pos u)
more own victim s v u d f is gains falls =
    let own_split = *ℤ-+ℤ own (pos s) (pos d) in
    let victim_split = *ℤ-+ℤ victim (pos v) (pos f) in
    let seen_split = *ℤ-+ℤ victim (pos u) (pos d) in
    let same : victim *ℤ pos (v + f) ≡ victim *ℤ pos (u + d) = ap (λ n. victim *ℤ pos n) is in
    let gained = positive_times victim f gains in
    let lost = negative_times (own +ℤ victim) d falls in
    let joined = +ℤ-*ℤ own victim (pos d) in
    omega (arith, ints)

module _ (w : ℕ) (e : ExprTree) (form : HasForm e) (own victim lower seen : CoreValues) (are : AreLower w own victim lower seen) where
  pub rising : rises w e ≡ true → value_of (pair_values own victim) e ≤ℤ value_of (pair_values lower seen) e
  unfolding rises
  rising is =
      let first = and_true (int_le (pos 0) (growth (victim_more w) e)) _ is in
      let second = and_true (int_le (growth (own_more w) e +ℤ growth (victim_more w) e) (pos 0)) (not (asks_own e)) first.1 in
      let own_grows = growth_own e form w in
      let victim_grows = growth_victim e form w in
      let gains = le_tells (pos 0) (growth (victim_more w) e) first.0 in
      let falls = le_tells (growth (own_more w) e +ℤ growth (victim_more w) e) (pos 0) second.0 in
      let before = pair_value e form w own victim are.own_weighs are.victim_weighs in
      let after = pair_value e form w lower seen are.lower_weighs are.seen_weighs in
      let stays = same_rest e form w (not_false (asks_own e) second.1) own victim lower seen are.own_long are.lower_long are.alike in
      let fewer = are.fewer in let far = are.far in
      let d = own.nr - lower.nr in
      let f = (seen.nr + d) - victim.nr in
      let sum = more (own_slope e form w) (victim_slope e form w) lower.nr victim.nr seen.nr d f (omega arith) (omega (arith, ints)) (omega (arith, ints)) in
      let count : own_slope e form w *ℤ pos (lower.nr + d) ≡ own_slope e form w *ℤ pos own.nr = ap (λ n. own_slope e form w *ℤ pos n) (omega arith) in
      omega (arith, ints)

  pub own_multiple : is_own_multiple w e ≡ true → value_of (pair_values own victim) e ≡ pos 0 → value_of (pair_values lower seen) e ≡ pos 0
  unfolding is_own_multiple
  own_multiple is none =
      let first = and_true (int_eq (value_of nobody e) (pos 0)) _ is in
      let second = and_true (int_eq (growth (victim_more w) e) (pos 0)) (not (asks_attributes e)) first.1 in
      let even = (Decides-int_eq (value_of nobody e) (pos 0)).0 first.0 in
      let flat : victim_slope e form w ≡ pos 0 = sym (growth_victim e form w) ∙ (Decides-int_eq (growth (victim_more w) e) (pos 0)).0 second.0 in
      let nothing = λ (n : ℕ). ap (λ z. z *ℤ pos n) flat ∙ zero-*ℤ (pos n) in
      let before = pair_value e form w own victim are.own_weighs are.victim_weighs in
      let after = pair_value e form w lower seen are.lower_weighs are.seen_weighs in
      let own_rest = no_rest e form w (not_false (asks_attributes e) second.1) own victim are.own_long are.victim_long in
      let lower_rest = no_rest e form w (not_false (asks_attributes e) second.1) lower seen are.lower_long are.seen_long in
      let victim_none = nothing victim.nr in
      let seen_none = nothing seen.nr in
      let own_none : own_slope e form w *ℤ pos own.nr ≡ pos 0 = omega (arith, ints) in
      let lower_none = no_product (own_slope e form w) own.nr lower.nr own_none are.fewer in
      omega (arith, ints)

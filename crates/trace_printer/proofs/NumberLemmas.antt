-- Numbers that some word spells are spelled by the words that are printed of them.
use Rattle.std.proofs.Common.{◌≡◌, ◌<◌, ◌≤◌, ◌+◌, ◌*◌, ◌-◌, ◌^◌, ℕ, zero, suc, Bool, true, false, cond, eqb, List, [], ◌∷◌, Option, Some, None, length, refl, ap, subst, arith, rules, fold, lit<, lit≤}
use Rattle.std.specs.Prelude.{ℤ, pos, negsuc, decimal, option_map}
use Rattle.std.specs.List.{list_all}
use Rattle.std.specs.Char.{is_ascii_digit}
use Rattle.std.specs.Fmt.{signed_decimal}
use Rattle.std.proofs.lemmas.Bool.{leb-true, ne_eqb}
use Rattle.std.proofs.lemmas.Bool.Decides.{nat_tests}
use Rattle.std.proofs.lemmas.Fmt.{decimal_nonempty, digits_decimal}
use Rattle.std.proofs.lemmas.Str.Parse.{IsNumeralModel, numerals_by_fold, digits_value_short}
use Rattle.sched_base.specs.declared.limits.TheConstants.{MAX_DIGITS}
use Rattle.text_forms.specs.Numbers.{is_decimal, number_in, number_of}
use Rattle.text_forms.proofs.DecimalLemmas.{decimal-read}
use Rattle.job_trace.specs.Forms.{negative, signed_in}
use Rattle.trace_printer.proofs.WordLemmas.{IsWord, and-left, and-right, digits-word, sign-word}

number_behind : ℕ → List ℕ → ℕ
number_behind number digits = fold (λ n digit. 10 * n + (digit - 48)) number digits

own : IsNumeralModel (λ ds. list_all is_ascii_digit ds ≡ true) number_of
unfolding number_behind
own = numerals_by_fold (λ ds. list_all is_ascii_digit ds ≡ true) (search rules) number_behind (search rules)

some-same : {X : Type 0} {x y : X} → Some x ≡ Some y → x ≡ y
some-same e = cc

-- the number has a spelling
abbrev pub IsSpelt : ℕ → Type 0
IsSpelt n = n < 10 ^ MAX_DIGITS

small : (n : ℕ) → IsSpelt n → n < 2 ^ 64
small n few = let room : 10 ^ MAX_DIGITS ≤ 2 ^ 64 = lit≤ tt in omega arith

pub spelt : (word : List ℕ) (n : ℕ) → number_in word ≡ Some n → IsSpelt n
unfolding number_in
spelt word n e = by (is_decimal word) refl e
  where
    by : (b : Bool) → is_decimal word ≡ b → cond b (Some (number_of word)) None ≡ Some n → IsSpelt n
    by true is e =
        let rest = and-right _ _ is in
        let digits = and-right _ _ rest in
        let short = leb-true (length word) MAX_DIGITS (and-left _ _ rest) in
        subst IsSpelt (some-same e) (digits_value_short own word MAX_DIGITS digits short)
    by false is e = cc

pub one-spelt : IsSpelt 1
one-spelt = lit< tt

pub decimal-word : (n : ℕ) → IsSpelt n → IsWord (decimal n)
decimal-word n few = digits-word (decimal n) (decimal_nonempty n (small n few)) (digits_decimal own n (small n few))

pub number-read : (n : ℕ) → IsSpelt n → number_in (decimal n) ≡ Some n
number-read = decimal-read

-- the number has a spelling, where a sign may stand
abbrev pub IsSignedSpelt : ℤ → Type 0
IsSignedSpelt (pos n) = IsSpelt n
IsSignedSpelt (negsuc n) = IsSpelt (suc n)

negative-spelt : (n : ℕ) → IsSpelt n → IsSignedSpelt (negative n)
negative-spelt zero few = few
negative-spelt (suc n) few = few

mapped-spelt : (f : ℕ → ℤ) → ((n : ℕ) → IsSpelt n → IsSignedSpelt (f n)) →
    (o : Option ℕ) → ((n : ℕ) → o ≡ Some n → IsSpelt n) → (z : ℤ) → option_map f o ≡ Some z → IsSignedSpelt z
mapped-spelt f spells None few z e = cc
mapped-spelt f spells (Some n) few z e = subst IsSignedSpelt (some-same e) (spells n (few n refl))

pub signed-spelt : (word : List ℕ) (z : ℤ) → signed_in word ≡ Some z → IsSignedSpelt z
signed-spelt [] z e = cc
signed-spelt (first ∷ rest) z e = by (eqb first 45) e
  where
    by : (b : Bool) →
        cond b (option_map negative (number_in rest)) (option_map pos (number_in (first ∷ rest))) ≡ Some z →
        IsSignedSpelt z
    by true e = mapped-spelt negative negative-spelt (number_in rest) (spelt rest) z e
    by false e = mapped-spelt pos (λ n few. few) (number_in (first ∷ rest)) (spelt (first ∷ rest)) z e

pub signed-word : (z : ℤ) → IsSignedSpelt z → IsWord (signed_decimal z)
signed-word (pos n) few = decimal-word n few
signed-word (negsuc n) few = sign-word (decimal (suc n)) (decimal-word (suc n) few)

digit-no-sign : (byte : ℕ) → is_ascii_digit byte ≡ true → eqb byte 45 ≡ false
digit-no-sign byte digit = ne_eqb byte 45 (λ e. grind (arith, nat_tests))

-- digits have no sign
unsigned : (word : List ℕ) (n : ℕ) → list_all is_ascii_digit word ≡ true → number_in word ≡ Some n →
    signed_in word ≡ Some (pos n)
unfolding number_in
unsigned [] n digits e = cc
unsigned (first ∷ rest) n digits e =
    rw (digit-no-sign first (and-left (is_ascii_digit first) _ digits)) (ap (option_map pos) e)

pub signed-read : (z : ℤ) → IsSignedSpelt z → signed_in (signed_decimal z) ≡ Some z
signed-read (pos n) few = unsigned (decimal n) n (digits_decimal own n (small n few)) (decimal-read n few)
signed-read (negsuc n) few = ap (option_map negative) (decimal-read (suc n) few)

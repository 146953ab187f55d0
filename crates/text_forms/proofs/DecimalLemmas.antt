-- The one spelling of a number without leading zeros.
use Rattle.std.proofs.Common.{◌≡◌, ◌∙◌, ◌<◌, ◌≤◌, ◌+◌, ◌*◌, ◌-◌, ◌^◌, ◌&&◌, ℕ, Bool, true, false, cond, List, [], ◌∷◌, Some, None, length, get_or, refl, ap, sym, arith, rules, fold, lit<, lit≤, inl, inr, ◌⊎◌}
use Rattle.std.specs.Prelude.{decimal}
use Rattle.std.specs.List.{list_all}
use Rattle.std.specs.Char.{is_ascii_digit}
use Rattle.std.proofs.lemmas.Bool.{cases_lt, eqb-false, eqb-true, lt-ltb, le-leb, ltb-true, leb-true}
use Rattle.std.proofs.lemmas.Fmt.{decimal-digits_value, decimal_nonempty, digits_decimal, digits_value-decimal, first_decimal, length-decimal-le}
use Rattle.std.proofs.lemmas.Str.Parse.{IsNumeralModel, numerals_by_fold, digits_value_short}
use Rattle.sched_base.specs.declared.limits.TheConstants.{MAX_DIGITS}
use Rattle.text_forms.specs.Numbers.{is_decimal, is_padded, number_in, number_of}

number_behind : ℕ → List ℕ → ℕ
number_behind number digits = fold (λ n digit. 10 * n + (digit - 48)) number digits

own : IsNumeralModel (λ ds. list_all is_ascii_digit ds ≡ true) number_of
unfolding number_behind
own = numerals_by_fold (λ ds. list_all is_ascii_digit ds ≡ true) (search rules) number_behind (search rules)

some-same : {x y : ℕ} → Some x ≡ Some y → x ≡ y
some-same e = cc

small : (n : ℕ) → n < 10 ^ MAX_DIGITS → n < 2 ^ 64
small n few = let room : 10 ^ MAX_DIGITS ≤ 2 ^ 64 = lit≤ tt in omega arith

-- what a number's one spelling is
pub decimal-read : (n : ℕ) → n < 10 ^ MAX_DIGITS → number_in (decimal n) ≡ Some n
unfolding number_in
decimal-read n few =
    let some = lt-ltb 0 (length (decimal n)) (decimal_nonempty n (small n few)) in
    let short = le-leb (length (decimal n)) MAX_DIGITS (length-decimal-le MAX_DIGITS n (lit< tt) few (small n few)) in
    let digits = digits_decimal own n (small n few) in
    rw (some, short, digits) (ap (λ v. Some v) (digits_value-decimal own n (small n few)))

padded-first : (word : List ℕ) → is_padded word ≡ true → (1 < length word) × (get_or word 0 0 ≡ 48)
padded-first [] padded = cc
padded-first (first ∷ []) padded = cc
padded-first (first ∷ second ∷ rest) padded = (omega arith, eqb-true first 48 padded)

pub decimal-not_padded : (n : ℕ) → n < 10 ^ MAX_DIGITS → is_padded (decimal n) ≡ true → ⊥
decimal-not_padded n few padded = by (cases_lt 0 n)
  where
    by : (0 < n) ⊎ (n ≤ 0) → ⊥
    by (inl some) = omega (arith, first_decimal n some (small n few), (padded-first (decimal n) padded).1)
    by (inr none) = omega (arith, length-decimal-le 1 n (lit< tt) (omega arith) (small n few), (padded-first (decimal n) padded).0)

-- a word that spells a number, and in which no zero leads, is its one spelling
pub spells-decimal : (word : List ℕ) (n : ℕ) → number_in word ≡ Some n → is_padded word ≡ false → word ≡ decimal n
unfolding number_in
spells-decimal word n e plain = by (is_decimal word) refl e
  where
    and-left : (a b : Bool) → (a && b) ≡ true → a ≡ true
    and-left true b e = refl
    and-left false b e = cc

    and-right : (a b : Bool) → (a && b) ≡ true → b ≡ true
    and-right true b e = e
    and-right false b e = cc

    one : (word : List ℕ) → is_padded word ≡ false → 0 < length word → get_or word 0 0 ≡ 48 → length word ≡ 1
    one [] plain some zero = absurd (omega (arith, some))
    one (first ∷ []) plain some zero = refl
    one (first ∷ second ∷ rest) plain some zero = absurd (eqb-false first 48 plain zero)

    by : (b : Bool) → is_decimal word ≡ b → cond b (Some (number_of word)) None ≡ Some n → word ≡ decimal n
    by true decimal_is e =
        let rest = and-right _ _ decimal_is in
        let some = ltb-true 0 (length word) (and-left _ _ decimal_is) in
        let digits = and-right _ _ rest in
        let short = leb-true (length word) MAX_DIGITS (and-left _ _ rest) in
        let value : number_of word ≡ n = some-same e in
        let below = digits_value_short own word MAX_DIGITS digits short in
        sym (decimal-digits_value own word digits some (one word plain some) (small (number_of word) below)) ∙ ap decimal value
    by false decimal_is e = cc

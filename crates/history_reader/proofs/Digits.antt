-- The bytes of numbers are digits.
use Rattle.std.proofs.Common.{◌≡◌, ◌≢◌, ℕ, ◌^◌, ◌<◌, ◌+◌, ◌*◌, ◌-◌, Bool, true, false, List, [], ◌∷◌, decimal, refl, sym, ap, ◌∙◌, arith, rules}
use Rattle.std.specs.Char.{is_ascii_digit}
use Rattle.std.specs.Str.{all_ascii_digits}
use Rattle.std.proofs.lemmas.Bool.{false≢true}
use Rattle.std.proofs.lemmas.Bool.Decides.{nat_tests}
use Rattle.std.proofs.lemmas.List.Elements.{All-nil, All-cons}
use Rattle.std.proofs.lemmas.Fmt.{digits_decimal}
use Rattle.std.proofs.lemmas.Str.Parse.{IsNumeralModel, numerals_by_fold}
use Rattle.text_forms.specs.Cuts.{Lacks}

abbrev read_on : ℕ → List ℕ → ℕ
read_on n [] = n
read_on n (c ∷ cs) = read_on (10 * n + (c - 48)) cs

own : IsNumeralModel (λ ds. all_ascii_digits ds ≡ true) (read_on 0)
own = numerals_by_fold _ (search rules) read_on (search rules)

not_digit : (byte d : ℕ) → is_ascii_digit byte ≡ false → is_ascii_digit d ≡ true → d ≢ byte
not_digit byte d other test same = absurd (false≢true (sym other ∙ (ap is_ascii_digit (sym same) ∙ test)))

-- digits lack each other byte
digits_lack : (byte : ℕ) → is_ascii_digit byte ≡ false → (digits : List ℕ) → all_ascii_digits digits ≡ true → Lacks byte digits
digits_lack byte other [] digits = All-nil (λ other. other ≢ byte)
digits_lack byte other (d ∷ rest) digits = by (is_ascii_digit d) refl (digits_lack byte other rest)
  where
    by : (b : Bool) → is_ascii_digit d ≡ b → (all_ascii_digits rest ≡ true → Lacks byte rest) → Lacks byte (d ∷ rest)
    by true test after = All-cons (λ other. other ≢ byte) d rest (not_digit byte d other test)
        (after (rw test at digits))
    by false test after = absurd (false≢true (rw test at digits))

pub decimal_lacks_other : (byte n : ℕ) → is_ascii_digit byte ≡ false → n < 2 ^ 64 → Lacks byte (decimal n)
decimal_lacks_other byte n other lt = digits_lack byte other (decimal n) (digits_decimal own n lt)

pub decimal_lacks : (byte n : ℕ) → byte < 48 → n < 2 ^ 64 → Lacks byte (decimal n)
decimal_lacks byte n below lt = decimal_lacks_other byte n (grind (arith, nat_tests, below)) lt

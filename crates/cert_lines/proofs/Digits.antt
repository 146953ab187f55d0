-- The bytes of numbers are digits, and a sign.
use Rattle.std.proofs.Common.{◌≡◌, ◌≢◌, ℕ, ◌^◌, ◌<◌, ◌+◌, ◌*◌, ◌-◌, Bool, true, false, List, [], ◌∷◌, decimal, inl, inr, ◌⊎◌, ◌≤◌, refl, arith, rules}
use Rattle.std.specs.Char.{is_ascii_digit}
use Rattle.std.specs.Str.{all_ascii_digits}
use Rattle.std.proofs.lemmas.Bool.{false≢true}
use Rattle.std.proofs.lemmas.Bool.Decides.{nat_tests}
use Rattle.std.proofs.lemmas.List.Elements.{All-nil, All-cons, All-append}
use Rattle.std.proofs.lemmas.Fmt.{digits_decimal}
use Rattle.std.proofs.lemmas.Str.Parse.{IsNumeralModel, numerals_by_fold}
use Rattle.linear_cert.specs.declared.cert.Mult.{Mult}
use Rattle.text_forms.specs.Cuts.{Lacks}
use Rattle.cert_lines.specs.Nodes.{word_of}
use Rattle.cert_lines.specs.Text.{IsMult}

abbrev read_on : ℕ → List ℕ → ℕ
read_on n [] = n
read_on n (c ∷ cs) = read_on (10 * n + (c - 48)) cs

own : IsNumeralModel (λ ds. all_ascii_digits ds ≡ true) (read_on 0)
own = numerals_by_fold _ (search rules) read_on (search rules)

is_digit : (d : ℕ) → is_ascii_digit d ≡ true → (48 ≤ d) × (d ≤ 57)
is_digit d test = grind (arith, nat_tests)

not_digit : (byte d : ℕ) → (byte < 48) ⊎ (57 < byte) → is_ascii_digit d ≡ true → d ≢ byte
not_digit byte d (inl below) test same = omega (arith, is_digit d test)
not_digit byte d (inr above) test same = omega (arith, is_digit d test)

-- digits lack each other byte
digits_lack : (byte : ℕ) → (byte < 48) ⊎ (57 < byte) → (digits : List ℕ) → all_ascii_digits digits ≡ true → Lacks byte digits
digits_lack byte below [] digits = All-nil (λ other. other ≢ byte)
digits_lack byte below (d ∷ rest) digits = by (is_ascii_digit d) refl (digits_lack byte below rest)
  where
    by : (b : Bool) → is_ascii_digit d ≡ b → (all_ascii_digits rest ≡ true → Lacks byte rest) → Lacks byte (d ∷ rest)
    by true test after = All-cons (λ other. other ≢ byte) d rest (not_digit byte d below test) (after (rw test at digits))
    by false test after = absurd (false≢true (rw test at digits))

pub decimal_lacks : (byte n : ℕ) → (byte < 48) ⊎ (57 < byte) → n < 2 ^ 64 → Lacks byte (decimal n)
decimal_lacks byte n below lt = digits_lack byte below (decimal n) (digits_decimal own n lt)

-- a word of a multiplier lacks a space
pub word_lacks_space : (mult : Mult) → IsMult mult → Lacks 32 (word_of mult)
word_lacks_space mult is =
    let row = decimal_lacks 32 mult.row (inl (omega arith)) (omega (arith, is.row)) in
    let by = decimal_lacks 32 mult.by (inl (omega arith)) is.by in
    All-append (λ other. other ≢ 32) (decimal mult.row) (58 ∷ decimal mult.by) row (All-cons (λ other. other ≢ 32) 58 (decimal mult.by) (λ same. absurd (omega (arith, same))) by)

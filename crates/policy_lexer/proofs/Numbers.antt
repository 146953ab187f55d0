-- The value of digits, read from the left.
use Rattle.std.proofs.Common.{◌≡◌, ◌∙◌, ◌<◌, ◌≤◌, ◌+◌, ◌*◌, ◌-◌, ℕ, List, [], ◌∷◌, length, drop, take, true, get_or, ap, arith}
use Rattle.std.specs.Char.{is_ascii_digit, digit_value}
use Rattle.std.specs.List.{prefix_len}
use Rattle.std.proofs.lemmas.Bool.Decides.{nat_tests}
use Rattle.std.proofs.lemmas.List.{drop_more, at_drop_all}
use Rattle.std.proofs.lemmas.List.Sums.{prefix_len_passes}
use Rattle.std.proofs.lemmas.List.{get_or-take}
use Rattle.policy_lexer.specs.Bytes.{number_behind, number_of}

pub digit_value-is : (byte : ℕ) → is_ascii_digit byte ≡ true → (48 ≤ byte) × (byte ≤ 57) × (digit_value byte ≡ byte - 48)
digit_value-is byte digit = (grind (arith, nat_tests), grind (arith, nat_tests), grind (arith, nat_tests))

-- a number only grows by further digits
number_behind-grows : (value : ℕ) (digits : List ℕ) → value ≤ number_behind value digits
number_behind-grows value [] = omega arith
number_behind-grows value (digit ∷ digits) = omega (arith, number_behind-grows (value * 10 + digit_value digit) digits)

-- the next digit goes from what is left to what is read
pub number-next : (digits : List ℕ) (value at : ℕ) → at < length digits → number_of digits ≡ number_behind value (drop at digits) →
    number_of digits ≡ number_behind (value * 10 + digit_value (get_or digits at 0)) (drop (at + 1) digits)
number-next digits value at within same = same ∙ ap (number_behind value) (drop_more digits at 0 within)

pub number-passes : (digits : List ℕ) (value at : ℕ) → at < length digits → number_of digits ≡ number_behind value (drop at digits) →
    value * 10 + digit_value (get_or digits at 0) ≤ number_of digits
number-passes digits value at within same =
    omega (
      arith,
      number-next digits value at within same,
      number_behind-grows (value * 10 + digit_value (get_or digits at 0)) (drop (at + 1) digits),
    )

pub number-ends : (digits : List ℕ) (value at : ℕ) → length digits ≤ at → number_of digits ≡ number_behind value (drop at digits) →
    number_of digits ≡ value
number-ends digits value at past same = same ∙ at_drop_all (number_behind value) digits at past

-- a run of digits has digits alone
pub digits_pass : (text : List ℕ) (k : ℕ) (d : ℕ) → k < prefix_len is_ascii_digit text →
    is_ascii_digit (get_or (take (prefix_len is_ascii_digit text) text) k d) ≡ true
digits_pass text k d within =
    rw (get_or-take (prefix_len is_ascii_digit text) text k d within) (prefix_len_passes is_ascii_digit text k d within)

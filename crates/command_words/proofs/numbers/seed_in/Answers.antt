-- Digits that spell a number of 64 bits are parsed as it.
use Rattle.std.proofs.Common.{◌≡◌, ◌<◌, ◌^◌, ◌+◌, ◌*◌, ◌-◌, ◌&&◌, ℕ, Bool, List, true, false, Some, None, fold, rules, tests, refl, ap, length}
use Rattle.std.specs.Prelude.{nat_le, nat_lt}
use Rattle.std.specs.Char.{is_ascii_digit}
use Rattle.std.specs.List.{list_all}
use Rattle.std.proofs.lemmas.Bool.{false_from_ne_true}
use Rattle.std.proofs.lemmas.Str.Parse.{IsNumeralModel, numerals_by_fold, parse_digits}
use Rattle.text_forms.specs.Numbers.{number_of}
use Rattle.command_words.specs.Numbers.{is_decimal, seed_in}
use Rattle.command_words.specs.declared.numbers.TheConstants.{MAX_WORD_DIGITS}
use Rattle.command_words.proofs.numbers.seed_in.Goals as goal

-- the number of digits that are read behind those of another number
read_on : ℕ → List ℕ → ℕ
read_on before digits = fold (λ number digit. 10 * number + (digit - 48)) before digits

digits : IsNumeralModel (λ ds. list_all is_ascii_digit ds ≡ true) number_of
unfolding read_on
digits = numerals_by_fold _ (search rules) read_on (search rules)

all_of : (a b c : Bool) → (a && (b && c)) ≡ true → (a ≡ true) × (c ≡ true)
all_of true true c h = (refl, h)
all_of true false c h = cc
all_of false b c h = cc

are_digits : (text : List ℕ) → is_decimal text ≡ true → (nat_lt 0 (length text) ≡ true) × (list_all is_ascii_digit text ≡ true)
are_digits text = all_of (nat_lt 0 (length text)) (nat_le (length text) MAX_WORD_DIGITS) (list_all is_ascii_digit text)

read : (text : List ℕ) (n : ℕ) → is_decimal text ≡ true → ((0 < length text) × (number_of text < 2 ^ 64)) × (n ≡ number_of text) → Some n ≡ seed_in text
read text n decimal r =
    let fits : nat_lt (number_of text) (2 ^ 64) ≡ true = search (rules, tests) in
    rw (decimal, fits) (ap Some r.1)

unread : (text : List ℕ) → is_decimal text ≡ true → ((0 < length text) × (number_of text < 2 ^ 64) → ⊥) → None ≡ seed_in text
unread text decimal r =
    let some : 0 < length text = search (rules, tests, (are_digits text decimal).0) in
    let over : nat_lt (number_of text) (2 ^ 64) ≡ false = false_from_ne_true (nat_lt (number_of text) (2 ^ 64)) (λ fits. r (some, search (rules, tests))) in
    rw (decimal, over) refl

pub returns-in-Ok : goal.returns-in-Ok
returns-in-Ok c =
    let word = c.args.word.now in
    let decimal : is_decimal word ≡ true = search rules in
    let r = parse_digits digits 64 word c.parse.result c.parse.ensures.value.0 (are_digits word decimal).1 in
    read word c.in-Ok.seed decimal (rw c.in-Ok.is at r)

pub returns-in-Err : goal.returns-in-Err
returns-in-Err c =
    let word = c.args.word.now in
    let decimal : is_decimal word ≡ true = search rules in
    let r = parse_digits digits 64 word c.parse.result c.parse.ensures.value.0 (are_digits word decimal).1 in
    unread word decimal (rw c.in-Err.is at r)

-- The decimal digits of a number are a token with its value.
use Rattle.std.proofs.Common.{◌≡◌, ◌∙◌, ◌<◌, ◌≤◌, ◌+◌, ◌*◌, ◌/◌, ◌%◌, ◌^◌, ◌&&◌, ℕ, Bool, true, false, List, [], ◌∷◌, ◌++◌, length, Some, refl, ap, arith, decimal, length-append}
use Rattle.std.specs.List.{list_all}
use Rattle.std.specs.Char.{is_ascii_alphabetic, is_ascii_digit, digit_value}
use Rattle.std.proofs.lemmas.Bool.Decides.{nat_tests}
use Rattle.std.proofs.lemmas.Fmt.{decimal_by_steps}
use Rattle.policy_lexer.specs.declared.token.TokenKind.TheVariants as kind
use Rattle.policy_lexer.specs.Bytes.{number_behind, number_of}
use Rattle.policy_lexer.specs.Pieces.{token, piece_of}
use Rattle.policy_lexer.proofs.Numbers.{digit_value-is}

number_behind-end : (before : ℕ) (ds : List ℕ) (d : ℕ) → number_behind before (ds ++ d ∷ []) ≡ number_behind before ds * 10 + digit_value d
number_behind-end before [] d = refl
number_behind-end before (x ∷ ds) d = number_behind-end (before * 10 + digit_value x) ds d

list_all-end : (ds : List ℕ) (d : ℕ) → list_all is_ascii_digit ds ≡ true → is_ascii_digit d ≡ true → list_all is_ascii_digit (ds ++ d ∷ []) ≡ true
list_all-end [] d all last = rw last refl
list_all-end (x ∷ ds) d all last = by (is_ascii_digit x) (λ later. list_all-end ds d later last) all
  where
    by : (v : Bool) → (list_all is_ascii_digit ds ≡ true → list_all is_ascii_digit (ds ++ d ∷ []) ≡ true) → (v && list_all is_ascii_digit ds) ≡ true →
        (v && list_all is_ascii_digit (ds ++ d ∷ [])) ≡ true
    by true go e = go e
    by false go e = e

-- the digits of a number
pub record AreDigits (n : ℕ) (ds : List ℕ) : Type 0 where
  pub some : 0 < length ds
  pub all : list_all is_ascii_digit ds ≡ true
  pub value : number_of ds ≡ n

digit-is : (n : ℕ) → n < 10 → (is_ascii_digit (48 + n) ≡ true) × (digit_value (48 + n) ≡ n)
digit-is n less =
    let digit : is_ascii_digit (48 + n) ≡ true = grind (arith, nat_tests) in
    (digit, let is = digit_value-is (48 + n) digit in let v = is.2 in omega arith)

one-digit : (n : ℕ) → n < 10 → AreDigits n ((48 + n) ∷ [])
one-digit n less =
    let is = digit-is n less in
    record { some = omega arith; all = rw is.0 refl; value = let v = is.1 in omega arith }

more-digits : (n : ℕ) (ds : List ℕ) → 10 ≤ n → AreDigits (n / 10) ds → AreDigits n (ds ++ ((48 + n % 10) ∷ []))
more-digits n ds more these =
    let is = digit-is (n % 10) (omega arith) in
    record {
      some = let l = length-append ds ((48 + n % 10) ∷ []) in omega arith;
      all = list_all-end ds (48 + n % 10) these.all is.0;
      value = let v = these.value in let w = is.1 in let e = number_behind-end 0 ds (48 + n % 10) in omega arith;
    }

pub decimal-digits : (n : ℕ) → n < 2 ^ 64 → AreDigits n (decimal n)
decimal-digits n small = decimal_by_steps AreDigits one-digit more-digits n small

digit-no_letter : (f : ℕ) → is_ascii_digit f ≡ true → is_ascii_alphabetic f ≡ false
digit-no_letter f digit = grind (arith, nat_tests)

digits-piece : (ds : List ℕ) → 0 < length ds → list_all is_ascii_digit ds ≡ true → piece_of ds ≡ Some (token (kind.Number (number_of ds)))
digits-piece [] some all = absurd (omega arith)
digits-piece (f ∷ r) some all = by (is_ascii_digit f) refl all
  where
    by : (v : Bool) → is_ascii_digit f ≡ v → (v && list_all is_ascii_digit r) ≡ true → piece_of (f ∷ r) ≡ Some (token (kind.Number (number_of (f ∷ r))))
    by true d e = rw (digit-no_letter f d) (rw d (rw e refl))
    by false d e = cc

pub decimal-piece : (n : ℕ) → n < 2 ^ 64 → piece_of (decimal n) ≡ Some (token (kind.Number n))
decimal-piece n small =
    let ds = decimal-digits n small in
    digits-piece (decimal n) ds.some ds.all ∙ ap (λ v. Some (token (kind.Number v))) ds.value

-- What a printed word is made of.
use Rattle.std.proofs.Common.{◌≡◌, ◌<◌, ℕ, Bool, true, false, ◌&&◌, nat_lt, List, [], ◌∷◌, length, refl, arith}
use Rattle.std.specs.List.{list_all}
use Rattle.std.specs.Char.{is_ascii_digit, is_ascii_alphabetic}
use Rattle.std.proofs.lemmas.Bool.Decides.{nat_tests}
use Rattle.text_forms.specs.Lines.{has_byte}
use Rattle.job_trace.specs.Words.{is_name, is_name_byte}

-- a byte of a word: it is greater than each byte that parts words or lines
abbrev pub is_ink : ℕ → Bool
is_ink byte = nat_lt 32 byte

pub record IsWord (word : List ℕ) : Type 0 where
  pub some : has_byte word ≡ true
  pub plain : list_all is_ink word ≡ true

pub and-left : (a b : Bool) → (a && b) ≡ true → a ≡ true
and-left true b e = refl
and-left false b e = cc

pub and-right : (a b : Bool) → (a && b) ≡ true → b ≡ true
and-right true b e = e
and-right false b e = cc

pub and-both : {a b : Bool} → a ≡ true → b ≡ true → (a && b) ≡ true
and-both {a = a} {b = b} left right = rw left right

-- a test that passes more passes the same lists
pub all-wider : (p q : ℕ → Bool) → ((byte : ℕ) → p byte ≡ true → q byte ≡ true) → (bytes : List ℕ) →
    list_all p bytes ≡ true → list_all q bytes ≡ true
all-wider p q more [] all = refl
all-wider p q more (b ∷ bytes) all =
    and-both (more b (and-left (p b) (list_all p bytes) all))
    (all-wider p q more bytes (and-right (p b) (list_all p bytes) all))

has-byte : (word : List ℕ) → 0 < length word → has_byte word ≡ true
has-byte [] some = absurd (omega (arith, some))
has-byte (b ∷ bytes) some = refl

digit-ink : (byte : ℕ) → is_ascii_digit byte ≡ true → is_ink byte ≡ true
digit-ink byte test = grind (arith, nat_tests)

letter-ink : (byte : ℕ) → is_ascii_alphabetic byte ≡ true → is_ink byte ≡ true
letter-ink byte test = grind (arith, nat_tests)

name-ink : (byte : ℕ) → is_name_byte byte ≡ true → is_ink byte ≡ true
name-ink byte test = grind (arith, nat_tests)

-- digits are a word
pub digits-word : (word : List ℕ) → 0 < length word → list_all is_ascii_digit word ≡ true → IsWord word
digits-word word some digits =
    record { some = has-byte word some; plain = all-wider is_ascii_digit is_ink digit-ink word digits }

-- a sign before a word is one
pub sign-word : (word : List ℕ) → IsWord word → IsWord (45 ∷ word)
sign-word word is = record { some = refl; plain = is.plain }

-- a name is a word
pub name-word : (name : List ℕ) → is_name name ≡ true → IsWord name
name-word [] named = cc
name-word (first ∷ rest) named =
    let tail = and-right (is_ascii_alphabetic first) _ named in
    record {
      some = refl;
      plain = and-both (letter-ink first (and-left (is_ascii_alphabetic first) _ named))
          (all-wider is_name_byte is_ink name-ink rest (and-left (list_all is_name_byte rest) _ tail));
    }

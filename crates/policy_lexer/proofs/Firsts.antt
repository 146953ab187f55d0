-- The first piece of a text, by its first byte.
use Rattle.std.proofs.Common.{◌≡◌, ◌∙◌, ◌<◌, ◌≤◌, ◌||◌, ℕ, zero, suc, Bool, true, false, List, [], ◌∷◌, length, take, Some, None, refl, ap, sym, arith, eqb}
use Rattle.std.specs.Prelude.{slice_index, option_map}
use Rattle.std.proofs.lemmas.Bool.Decides.{nat_tests}
use Rattle.std.specs.List.{prefix_len}
use Rattle.std.specs.Char.{is_ascii_alphabetic, is_ascii_digit}
use Rattle.std.specs.Int.{is_in_range}
use Rattle.policy_lexer.specs.declared.token.Symbol.{Symbol as Symbol_}
use Rattle.policy_lexer.specs.declared.token.TokenKind.TheVariants.{Word, Number, Symbol}
use Rattle.policy_lexer.specs.Bytes.{is_word_byte, is_blank, is_comment_byte, number_of, single_symbol, symbol_of}
use Rattle.policy_lexer.specs.First.{IsOther, HasDouble, HasNoDouble}
use Rattle.policy_lexer.specs.Pieces.{Piece, gap, token, piece_of, IsFirstPiece, HasNoPiece}
use Rattle.policy_lexer.proofs.Runs.{run_is_first}

letter-word : (digit upper lower under : Bool) → (upper || lower) ≡ true → (((digit || upper) || lower) || under) ≡ true
letter-word true upper lower under e = refl
letter-word false true lower under e = refl
letter-word false false true under e = refl
letter-word false false false under e = cc

letter-word_byte : (byte : ℕ) → is_ascii_alphabetic byte ≡ true → is_word_byte byte ≡ true
letter-word_byte byte letter =
    letter-word (is_in_range 48 57 byte) (is_in_range 65 90 byte) (is_in_range 97 122 byte) (eqb byte 95) letter

pub word_is_first : (text : List ℕ) → 0 < length text → is_ascii_alphabetic (slice_index text 0) ≡ true →
    IsFirstPiece text (prefix_len is_word_byte text) (token Word)
word_is_first [] some letter = absurd (omega arith)
word_is_first (first ∷ rest) some letter =
    run_is_first is_word_byte (λ bytes. token Word) first rest (λ more. rw letter refl) (letter-word_byte first letter)

digit-no-letter : (byte : ℕ) → is_ascii_digit byte ≡ true → is_ascii_alphabetic byte ≡ false
digit-no-letter byte digit = grind (arith, nat_tests)

pub number_is_first : (text : List ℕ) → 0 < length text → is_ascii_digit (slice_index text 0) ≡ true →
    IsFirstPiece text (prefix_len is_ascii_digit text) (token (Number (number_of (take (prefix_len is_ascii_digit text) text))))
number_is_first [] some digit = absurd (omega arith)
number_is_first (first ∷ rest) some digit =
    run_is_first is_ascii_digit (λ bytes. token (Number (number_of bytes))) first rest
    (λ more. rw (digit-no-letter first digit) (rw digit refl)) digit

blank-no-letter : (byte : ℕ) → is_blank byte ≡ true → is_ascii_alphabetic byte ≡ false
blank-no-letter byte blank = grind (arith, nat_tests)

blank-no-digit : (byte : ℕ) → is_blank byte ≡ true → is_ascii_digit byte ≡ false
blank-no-digit byte blank = grind (arith, nat_tests)

pub blanks_are_first : (text : List ℕ) → 0 < length text → is_blank (slice_index text 0) ≡ true →
    IsFirstPiece text (prefix_len is_blank text) gap
blanks_are_first [] some blank = absurd (omega arith)
blanks_are_first (first ∷ rest) some blank =
    run_is_first is_blank (λ bytes. gap) first rest
    (λ more. rw (blank-no-letter first blank) (rw (blank-no-digit first blank) (rw blank refl))) blank

pub comment_is_first : (text : List ℕ) → 0 < length text → slice_index text 0 ≡ 35 →
    IsFirstPiece text (prefix_len is_comment_byte text) gap
comment_is_first [] some hash = absurd (omega arith)
comment_is_first (first ∷ rest) some hash =
    run_is_first is_comment_byte (λ bytes. gap) first rest (λ more. rw hash refl) (rw hash refl)

other-piece : (first : ℕ) (more : List ℕ) → IsOther first →
    piece_of (first ∷ more) ≡ option_map (λ symbol. token (Symbol symbol)) (symbol_of (first ∷ more))
other-piece first more other = rw other.letter (rw other.digit (rw other.blank (rw other.comment refl)))

pub double_is_first : (text : List ℕ) (symbol : Symbol_) → IsOther (slice_index text 0) → HasDouble text symbol → IsFirstPiece text 2 (token (Symbol symbol))
double_is_first [] symbol other (some, is) = absurd (omega arith)
double_is_first (first ∷ []) symbol other (some, is) = absurd (omega arith)
double_is_first (first ∷ second ∷ rest) symbol other (some, is) = record {
  within = omega arith;
  spells = other-piece first (second ∷ []) other ∙ rw is refl;
  longest = past rest;
}
  where
    past : (rest : List ℕ) (more : ℕ) (piece : Piece) → 2 < more → more ≤ length (first ∷ second ∷ rest) →
        piece_of (take more (first ∷ second ∷ rest)) ≡ Some piece → ⊥
    past rest zero piece longer within e = omega (arith, longer)
    past rest (suc zero) piece longer within e = omega (arith, longer)
    past rest (suc (suc zero)) piece longer within e = omega (arith, longer)
    past [] (suc (suc (suc more))) piece longer within e = omega (arith, within)
    past (third ∷ rest) (suc (suc (suc more))) piece longer within e =
        let clash = sym (other-piece first (second ∷ third ∷ take more rest) other) ∙ e in cc

pub single_is_first : (text : List ℕ) (symbol : Symbol_) → 0 < length text → IsOther (slice_index text 0) →
    HasNoDouble text → single_symbol (slice_index text 0) ≡ Some symbol → IsFirstPiece text 1 (token (Symbol symbol))
single_is_first [] symbol some other alone is = absurd (omega arith)
single_is_first (first ∷ rest) symbol some other alone is = record {
  within = omega arith;
  spells = other-piece first [] other ∙ rw is refl;
  longest = past rest alone;
}
  where
    past : (rest : List ℕ) → HasNoDouble (first ∷ rest) →
        (more : ℕ) (piece : Piece) → 1 < more → more ≤ length (first ∷ rest) → piece_of (take more (first ∷ rest)) ≡ Some piece → ⊥
    past rest alone zero piece longer within e = omega (arith, longer)
    past rest alone (suc zero) piece longer within e = omega (arith, longer)
    past [] alone (suc (suc more)) piece longer within e = omega (arith, within)
    past (second ∷ rest) alone (suc (suc zero)) piece longer within e =
        let clash = ap (option_map (λ symbol. token (Symbol symbol))) (sym (alone (omega arith)))
        ∙ sym (other-piece first (second ∷ []) other) ∙ e in cc
    past (second ∷ []) alone (suc (suc (suc more))) piece longer within e = omega (arith, within)
    past (second ∷ third ∷ rest) alone (suc (suc (suc more))) piece longer within e =
        let clash = sym (other-piece first (second ∷ third ∷ take more rest) other) ∙ e in cc

pub no_symbol_is_first : (text : List ℕ) → 0 < length text → IsOther (slice_index text 0) →
    HasNoDouble text → single_symbol (slice_index text 0) ≡ None → HasNoPiece text
no_symbol_is_first [] some other alone is = absurd (omega arith)
no_symbol_is_first (first ∷ rest) some other alone is = none rest alone
  where
    none : (rest : List ℕ) → HasNoDouble (first ∷ rest) →
        (size : ℕ) (piece : Piece) → size ≤ length (first ∷ rest) → piece_of (take size (first ∷ rest)) ≡ Some piece → ⊥
    none rest alone zero piece within e = cc
    none rest alone (suc zero) piece within e =
        let clash = ap (option_map (λ symbol. token (Symbol symbol))) (sym is) ∙ sym (other-piece first [] other) ∙ e in cc
    none [] alone (suc (suc size)) piece within e = omega (arith, within)
    none (second ∷ rest) alone (suc (suc zero)) piece within e =
        let clash = ap (option_map (λ symbol. token (Symbol symbol))) (sym (alone (omega arith)))
        ∙ sym (other-piece first (second ∷ []) other) ∙ e in cc
    none (second ∷ []) alone (suc (suc (suc size))) piece within e = omega (arith, within)
    none (second ∷ third ∷ rest) alone (suc (suc (suc size))) piece within e =
        let clash = sym (other-piece first (second ∷ third ∷ take size rest) other) ∙ e in cc

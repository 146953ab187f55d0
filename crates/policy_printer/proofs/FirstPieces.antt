-- The text of a token begins with that token, where a blank stands behind it.
use Rattle.std.proofs.Common.{◌≡◌, ◌∙◌, ◌+◌, ◌&&◌, ◌==◌, ℕ, suc, Bool, true, false, cond, List, [], ◌∷◌, ◌++◌, length, take, Option, Some, None, refl, ap, sym, subst, arith}
use Rattle.std.specs.Prelude.{option_map}
use Rattle.std.specs.List.{list_all, prefix_len}
use Rattle.std.specs.Char.{is_ascii_alphabetic, is_ascii_digit}
use Rattle.std.proofs.Math.Seq.{take-append_seam}
use Rattle.std.proofs.lemmas.Bool.Decides.{nat_tests}
use Rattle.policy_lexer.specs.declared.token.Symbol.{Symbol as Sign}
use Rattle.policy_lexer.specs.declared.token.TokenKind.{TokenKind}
use Rattle.policy_lexer.specs.declared.token.TokenKind.TheVariants as kind
use Rattle.policy_lexer.specs.Bytes.{is_word_byte, is_blank, is_comment_byte, number_of, single_symbol, double_symbol, symbol_of}
use Rattle.policy_lexer.specs.First.{IsOther}
use Rattle.policy_lexer.specs.Pieces.{Piece, gap, token, piece_of, IsFirstPiece}
use Rattle.policy_lexer.proofs.Firsts.{word_is_first, number_is_first, blanks_are_first, single_is_first, double_is_first}

-- a run that passes a test, up to a byte that doesn't
prefix-front : (test : ℕ → Bool) (x rest : List ℕ) (b : ℕ) → list_all test x ≡ true → test b ≡ false → prefix_len test (x ++ b ∷ rest) ≡ length x
prefix-front test [] rest b all stops = rw stops refl
prefix-front test (f ∷ x) rest b all stops = by (test f) (λ later. prefix-front test x rest b later stops) all
  where
    by : (v : Bool) → (list_all test x ≡ true → prefix_len test (x ++ b ∷ rest) ≡ length x) → (v && list_all test x) ≡ true →
        cond v (1 + prefix_len test (x ++ b ∷ rest)) 0 ≡ suc (length x)
    by true go e = omega (arith, go e)
    by false go e = cc

pub run-some : (v : Bool) (x y : Piece) → cond v (Some x) None ≡ Some y → (v ≡ true) × (x ≡ y)
run-some true x y e = (refl, cc)
run-some false x y e = (cc, cc)

blank-no_word : (b : ℕ) → is_blank b ≡ true → is_word_byte b ≡ false
blank-no_word b blank = grind (arith, nat_tests)

blank-no_letter : (b : ℕ) → is_blank b ≡ true → is_ascii_alphabetic b ≡ false
blank-no_letter b blank = grind (arith, nat_tests)

blank-no_digit : (b : ℕ) → is_blank b ≡ true → is_ascii_digit b ≡ false
blank-no_digit b blank = grind (arith, nat_tests)

blank-no_double : (f b : ℕ) → is_blank b ≡ true → double_symbol f b ≡ None
blank-no_double f b blank = grind (arith, nat_tests)

gap-no_token : {k : TokenKind} → gap ≡ token k → ⊥
gap-no_token e = cc

none-some : {p : Piece} → ◌≡◌ {A = Option Piece} None (Some p) → ⊥
none-some e = cc

-- the text, which begins with the token's bytes
module _ (f : ℕ) (r rest : List ℕ) (b : ℕ) (k : TokenKind) (blank : is_blank b ≡ true) where
  letter-first : is_ascii_alphabetic f ≡ true → piece_of (f ∷ r) ≡ Some (token k) → IsFirstPiece ((f ∷ r) ++ b ∷ rest) (length (f ∷ r)) (token k)
  letter-first letter e =
      let run = run-some (list_all is_word_byte (f ∷ r)) (token kind.Word) (token k) (rw letter at e) in
      let size = prefix-front is_word_byte (f ∷ r) rest b run.0 (blank-no_word b blank) in
      let text = (f ∷ r) ++ b ∷ rest in
      subst (λ n. IsFirstPiece ((f ∷ r) ++ b ∷ rest) n (token k)) size
      (subst (λ (p : Piece). IsFirstPiece ((f ∷ r) ++ b ∷ rest) (prefix_len is_word_byte ((f ∷ r) ++ b ∷ rest)) p) run.1
      (word_is_first ((f ∷ r) ++ b ∷ rest) (omega arith) letter))

  digit-first : is_ascii_alphabetic f ≡ false → is_ascii_digit f ≡ true → piece_of (f ∷ r) ≡ Some (token k) →
      IsFirstPiece ((f ∷ r) ++ b ∷ rest) (length (f ∷ r)) (token k)
  digit-first letter digit e =
      let run = run-some (list_all is_ascii_digit r) (token (kind.Number (number_of (f ∷ r)))) (token k) (rw digit at (rw letter at e)) in
      let size = prefix-front is_ascii_digit (f ∷ r) rest b (rw digit run.0) (blank-no_digit b blank) in
      let all = ap (λ n. take n ((f ∷ r) ++ b ∷ rest)) size ∙ take-append_seam (f ∷ r) (b ∷ rest) in
      subst (λ n. IsFirstPiece ((f ∷ r) ++ b ∷ rest) n (token k)) size
      (subst (λ (p : Piece). IsFirstPiece ((f ∷ r) ++ b ∷ rest) (prefix_len is_ascii_digit ((f ∷ r) ++ b ∷ rest)) p)
      (ap (λ ds. token (kind.Number (number_of ds))) all ∙ run.1)
      (number_is_first ((f ∷ r) ++ b ∷ rest) (omega arith) digit))

single-first : (f : ℕ) (rest : List ℕ) (b : ℕ) (k : TokenKind) → is_blank b ≡ true → IsOther f → (o : Option Sign) → single_symbol f ≡ o →
    option_map (λ s. token (kind.Symbol s)) o ≡ Some (token k) → IsFirstPiece (f ∷ b ∷ rest) 1 (token k)
single-first f rest b k blank other None is e = absurd (none-some e)
single-first f rest b k blank other (Some s) is e =
    let same : token (kind.Symbol s) ≡ token k = cc in
    subst (λ (p : Piece). IsFirstPiece (f ∷ b ∷ rest) 1 p) same (single_is_first (f ∷ b ∷ rest) s (omega arith) other (λ two. blank-no_double f b blank) is)

double-first : (f g : ℕ) (rest : List ℕ) (k : TokenKind) → IsOther f → (o : Option Sign) → double_symbol f g ≡ o →
    option_map (λ s. token (kind.Symbol s)) o ≡ Some (token k) → IsFirstPiece (f ∷ g ∷ rest) 2 (token k)
double-first f g rest k other None is e = absurd (none-some e)
double-first f g rest k other (Some s) is e =
    let same : token (kind.Symbol s) ≡ token k = cc in
    subst (λ (p : Piece). IsFirstPiece (f ∷ g ∷ rest) 2 p) same (double_is_first (f ∷ g ∷ rest) s other (omega arith, is))

symbol-first : (f : ℕ) (r rest : List ℕ) (b : ℕ) (k : TokenKind) → is_blank b ≡ true → IsOther f →
    option_map (λ s. token (kind.Symbol s)) (symbol_of (f ∷ r)) ≡ Some (token k) → IsFirstPiece ((f ∷ r) ++ b ∷ rest) (length (f ∷ r)) (token k)
symbol-first f [] rest b k blank other e = single-first f rest b k blank other (single_symbol f) refl e
symbol-first f (g ∷ []) rest b k blank other e = double-first f g (b ∷ rest) k other (double_symbol f g) refl e
symbol-first f (g ∷ h ∷ r) rest b k blank other e = absurd (none-some e)

-- what the first byte of a token's text is
data Starts (f : ℕ) : Type 0 where
  by_letter : is_ascii_alphabetic f ≡ true → Starts f
  by_digit : is_ascii_alphabetic f ≡ false → is_ascii_digit f ≡ true → Starts f
  by_other : IsOther f → Starts f

starts : (f : ℕ) (r : List ℕ) (k : TokenKind) → piece_of (f ∷ r) ≡ Some (token k) → Starts f
starts f r k e = by (is_ascii_alphabetic f) (is_ascii_digit f) (is_blank f) (f == 35) refl refl refl refl
  where
    by : (letter digit blank hash : Bool) → is_ascii_alphabetic f ≡ letter → is_ascii_digit f ≡ digit → is_blank f ≡ blank → (f == 35) ≡ hash → Starts f
    by true digit blank hash l d b h = by_letter l
    by false true blank hash l d b h = by_digit l d
    by false false true hash l d b h =
        absurd (gap-no_token (run-some (list_all is_blank r) gap (token k) (rw b at (rw d at (rw l at e)))).1)
    by false false false true l d b h =
        absurd (gap-no_token (run-some (list_all is_comment_byte (f ∷ r)) gap (token k) (rw h at (rw b at (rw d at (rw l at e))))).1)
    by false false false false l d b h = by_other (record { letter = l; digit = d; blank = b; comment = h })

pub first-token : (x rest : List ℕ) (b : ℕ) (k : TokenKind) → is_blank b ≡ true → piece_of x ≡ Some (token k) →
    IsFirstPiece (x ++ b ∷ rest) (length x) (token k)
first-token [] rest b k blank e = absurd (none-some e)
first-token (f ∷ r) rest b k blank e = by (starts f r k e)
  where
    by : Starts f → IsFirstPiece ((f ∷ r) ++ b ∷ rest) (length (f ∷ r)) (token k)
    by (by_letter l) = letter-first f r rest b k blank l e
    by (by_digit l d) = digit-first f r rest b k blank l d e
    by (by_other o) = symbol-first f r rest b k blank o (rw o.comment at (rw o.blank at (rw o.digit at (rw o.letter at e))))

starts-no_blank : (f : ℕ) → Starts f → is_blank f ≡ false
starts-no_blank f (by_letter l) = by (is_blank f) refl
  where
    by : (v : Bool) → is_blank f ≡ v → v ≡ false
    by true b = sym l ∙ blank-no_letter f b
    by false b = refl
starts-no_blank f (by_digit l d) = by (is_blank f) refl
  where
    by : (v : Bool) → is_blank f ≡ v → v ≡ false
    by true b = sym d ∙ blank-no_digit f b
    by false b = refl
starts-no_blank f (by_other o) = o.blank

-- a blank before the text of a token is a gap of its own
pub first-gap : (b : ℕ) (x rest : List ℕ) (k : TokenKind) → is_blank b ≡ true → piece_of x ≡ Some (token k) → IsFirstPiece (b ∷ (x ++ rest)) 1 gap
first-gap b [] rest k blank e = absurd (none-some e)
first-gap b (f ∷ r) rest k blank e =
    let size : prefix_len is_blank (b ∷ ((f ∷ r) ++ rest)) ≡ 1 = rw (blank, starts-no_blank f (starts f r k e)) refl in
    subst (λ n. IsFirstPiece (b ∷ ((f ∷ r) ++ rest)) n gap) size (blanks_are_first (b ∷ ((f ∷ r) ++ rest)) (omega arith) blank)

pub last-gap : IsFirstPiece (10 ∷ []) 1 gap
last-gap = blanks_are_first (10 ∷ []) (omega arith) refl

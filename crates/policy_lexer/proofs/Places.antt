-- Reading from place to place.
use Rattle.std.proofs.Common.{◌≡◌, ◌∙◌, ◌<◌, ◌≤◌, ◌+◌, ◌-◌, ℕ, List, [], ◌∷◌, ◌++◌, length, take, drop, refl, ap, sym, subst, arith, length-drop}
use Rattle.std.proofs.lemmas.List.{take-take, drop-take, length-take-le}
use Rattle.policy_lexer.specs.declared.token.Token.{Token}
use Rattle.policy_lexer.specs.declared.token.TokenKind.{TokenKind}
use Rattle.policy_lexer.specs.Pieces.{Piece, gap, token, piece_of, IsFirstPiece}
use Rattle.policy_lexer.specs.Tokens.{KeepsLimits, Reads, reads_nothing, reads_gap, reads_token, SpellsTokens}

-- one gap more
pub Reads-gap : {text : List ℕ} {from at : ℕ} {tokens : List Token} (size : ℕ) →
    Reads text from tokens at → IsFirstPiece (drop at text) size gap → Reads text from tokens (at + size)
Reads-gap size reads_nothing last = reads_gap size last reads_nothing
Reads-gap size (reads_gap k first more) last = reads_gap k first (Reads-gap size more last)
Reads-gap size (reads_token t k starts ends first keeps more) last = reads_token t k starts ends first keeps (Reads-gap size more last)

-- one token more
pub Reads-token : {text : List ℕ} {from at : ℕ} {tokens : List Token} (kind : TokenKind) (size : ℕ) →
    Reads text from tokens at → IsFirstPiece (drop at text) size (token kind) → KeepsLimits kind size →
    Reads text from (tokens ++ record { kind = kind; start = at; end = at + size } ∷ []) (at + size)
Reads-token kind size reads_nothing last keeps = reads_token _ size refl refl last keeps reads_nothing
Reads-token kind size (reads_gap k first more) last keeps = reads_gap k first (Reads-token kind size more last keeps)
Reads-token kind size (reads_token t k starts ends first held more) last keeps =
    reads_token t k starts ends first held (Reads-token kind size more last keeps)

-- the first piece is one
pub first-unique : (text : List ℕ) (k j : ℕ) (p q : Piece) → IsFirstPiece text k p → IsFirstPiece text j q → (k ≡ j) × (p ≡ q)
first-unique text k j p q one other =
    let no_less : k < j → ⊥ = λ less. one.longest j q less other.within other.spells in
    let no_more : j < k → ⊥ = λ more. other.longest k p more one.within one.spells in
    let same : k ≡ j = omega arith in
    let there = sym one.spells ∙ ap (λ n. piece_of (take n text)) same ∙ other.spells in
    (same, cc)

pub Reads-le : {text : List ℕ} {from to : ℕ} {tokens : List Token} → Reads text from tokens to → from ≤ to
Reads-le reads_nothing = omega arith
Reads-le (reads_gap k first more) = omega (arith, Reads-le more)
Reads-le (reads_token t k starts ends first keeps more) = omega (arith, Reads-le more)

first-front : (text : List ℕ) (m k : ℕ) (p : Piece) → k ≤ m → m ≤ length text → IsFirstPiece text k p → IsFirstPiece (take m text) k p
first-front text m k p within all first =
    let len : length (take m text) ≡ m = length-take-le m text all in
    record {
      within = omega arith;
      spells = ap piece_of (take-take k m text within) ∙ first.spells;
      longest = λ more other longer fits e.
          let less : more ≤ m = omega arith in
          first.longest more other longer (omega arith) (sym (ap piece_of (take-take more m text less)) ∙ e);
    }

front-at : (text : List ℕ) (n at k : ℕ) (p : Piece) → at + k ≤ n → n ≤ length text →
    IsFirstPiece (drop at text) k p → IsFirstPiece (drop at (take n text)) k p
front-at text n at k p within all first =
    let sum : n ≡ at + (n - at) = omega arith in
    let same : drop at (take n text) ≡ take (n - at) (drop at text) =
    ap (λ m. drop at (take m text)) sum ∙ drop-take at (n - at) text in
    let size = length-drop at text in
    subst (λ s. IsFirstPiece s k p) (sym same) (first-front (drop at text) (n - at) k p (omega arith) (omega arith) first)

-- what is read before a place doesn't hang on what stands behind it
front-reads : (text : List ℕ) (n : ℕ) {from to : ℕ} {tokens : List Token} → n ≤ length text → to ≤ n →
    Reads text from tokens to → Reads (take n text) from tokens to
front-reads text n all within reads_nothing = reads_nothing
front-reads text n {from = from} all within (reads_gap k first more) =
    let later = Reads-le more in
    reads_gap k (front-at text n from k _ (omega arith) all first) (front-reads text n all within more)
front-reads text n {from = from} all within (reads_token t k starts ends first keeps more) =
    let later = Reads-le more in
    reads_token t k starts ends (front-at text n from k _ (omega arith) all first) keeps (front-reads text n all within more)

pub front-spells : (text : List ℕ) (at : ℕ) (tokens : List Token) → at ≤ length text →
    Reads text 0 tokens at → SpellsTokens (take at text) tokens
front-spells text at tokens within reads =
    let same : at ≡ length (take at text) = sym (length-take-le at text within) in
    subst (λ n. Reads (take at text) 0 tokens n) same (front-reads text at within (omega arith) reads)

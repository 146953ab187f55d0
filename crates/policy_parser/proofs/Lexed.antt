-- The tokens of a text lie in it, and so do the lexemes.
use Rattle.std.proofs.Common.{◌≡◌, ℕ, zero, suc, ◌+◌, ◌<◌, ◌≤◌, List, [], ◌∷◌, length, map, refl, sym, ap, subst, arith, All, slice_index_or}
use Rattle.policy_lexer.specs.declared.token.Token.{Token}
use Rattle.policy_lexer.specs.Tokens.{Reads, reads_nothing, reads_gap, reads_token}
use Rattle.policy_lexer.specs.Pieces.{Piece, IsFirstPiece}
use Rattle.policy_lexer.proofs.Places.{Reads-le}
use Rattle.policy_parser.specs.Answers.{LiesIn}
use Rattle.policy_grammar.specs.declared.language.Language.{Language}
use Rattle.policy_grammar.specs.Lexemes.{lexeme_in, lexemes_in}

-- what holds of all of them holds of each
map-at : {X Y : Type 0} (f : X → Y) (xs : List X) (n : ℕ) (x : X) → slice_index_or (map f xs) n (f x) ≡ f (slice_index_or xs n x)
map-at f [] zero x = refl
map-at f [] (suc n) x = refl
map-at f (y ∷ ys) zero x = refl
map-at f (y ∷ ys) (suc n) x = map-at f ys n x

pub map-length : {X Y : Type 0} (f : X → Y) (xs : List X) → length (map f xs) ≡ length xs
map-length f [] = refl
map-length f (x ∷ xs) = ap suc (map-length f xs)

pub all-at : {X Y : Type 0} (P : Y → Type 0) (f : X → Y) (xs : List X) (n : ℕ) (x : X) → All P (map f xs) → n < length xs → P (f (slice_index_or xs n x))
all-at P f xs n x all less =
    let size = map-length f xs in
    subst P (map-at f xs n x) (all n (f x) (omega (arith, size, less)))

all-more : {X : Type 0} (P : X → Type 0) {x : X} (xs : List X) → P x → All P xs → All P (x ∷ xs)
all-more P xs first rest zero d less = first
all-more P xs first rest (suc k) d less = rest k d (omega (arith, less))

-- a piece has a byte at least
piece-some : (text : List ℕ) (size : ℕ) (p : Piece) → IsFirstPiece text size p → 0 < size
piece-some text zero p first = absurd (let e = first.spells in cc)
piece-some text (suc size) p first = omega arith

pub tokens-lie : (language : Language) (text : List ℕ) {from to : ℕ} {tokens : List Token} → Reads text from tokens to → to ≤ length text → All (LiesIn text) (lexemes_in language text tokens)
tokens-lie language text reads_nothing most = λ k d less. absurd (omega (arith, less))
tokens-lie language text (reads_gap k first more) most = tokens-lie language text more most
tokens-lie language text (reads_token t k starts ends first keeps more) most =
    let le = Reads-le more in
    all-more (LiesIn text) _ (record { ordered = omega (arith, starts, ends); within = omega (arith, ends, le, most) }) (tokens-lie language text more most)

pub tokens-few : (text : List ℕ) {from to : ℕ} {tokens : List Token} → Reads text from tokens to → from + length tokens ≤ to
tokens-few text reads_nothing = omega arith
tokens-few text (reads_gap k first more) = let few = tokens-few text more in omega (arith, few)
tokens-few text (reads_token t k starts ends first keeps more) =
    let few = tokens-few text more in
    let some = piece-some _ k _ first in
    omega (arith, few, some)

-- the first token lies in it
pub first-lies : (language : Language) (text : List ℕ) (tokens : List Token) (first : Token) → All (LiesIn text) (lexemes_in language text tokens) →
    0 < length tokens → first ≡ slice_index_or tokens 0 first → LiesIn text (lexeme_in language text first)
first-lies language text tokens first all less is =
    subst (λ x. LiesIn text (lexeme_in language text x)) (sym is) (all-at (LiesIn text) (lexeme_in language text) tokens 0 first all less)

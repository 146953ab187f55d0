-- What a token is says how it is spelled, but for names and numbers.
use Rattle.std.proofs.Common.{◌≡◌, ◌∙◌, ◌<◌, ◌≤◌, ◌==◌, ◌&&◌, ◌||◌, ℕ, Bool, true, false, nat_le, if◌then◌else◌, List, [], ◌∷◌, refl, ap, sym, arith, lit<}
use Rattle.std.specs.List.{list_all}
use Rattle.std.specs.Str.{bytes_eq}
use Rattle.std.proofs.lemmas.Bool.Decides.{nat_tests}
use Rattle.std.proofs.lemmas.Slice.Eq.{bytes_eq-Decides}
use Rattle.policy_lexer.specs.declared.token.Symbol.{Symbol as Sign}
use Rattle.policy_lexer.specs.declared.token.Symbol.TheVariants as sign
use Rattle.policy_lexer.specs.declared.token.TokenKind.{TokenKind}
use Rattle.policy_lexer.specs.declared.token.TokenKind.TheVariants as kind
use Rattle.policy_grammar.specs.declared.terminal.Terminal.{Terminal}
use Rattle.policy_grammar.specs.declared.terminal.Terminal.TheVariants as terminal
use Rattle.policy_grammar.specs.Lexemes.{reserved_words, terminal_among, symbol_terminal, kind_terminal}
use Rattle.policy_grammar.specs.Terminals.{code}
use Rattle.policy_printer.proofs.Normal.{symbol_text, normal_bytes}

-- the first of the words that has that number
abbrev pub word_among : ℕ → List (List ℕ × Terminal) → List ℕ
word_among c [] = []
word_among c (w ∷ words) = if code w.1 == c then w.0 else word_among c words

abbrev pub word_text : ℕ → List ℕ
word_text c = word_among c reserved_words

-- the word's number is that of a reserved word with a place of its own, and then gives the word back; or it is past those
abbrev is_told : List ℕ × Terminal → Bool
is_told w =
    (nat_le (code terminal.Reserved) (code w.1) || bytes_eq (word_text (code w.1)) w.0)
    && nat_le (code w.1) (code terminal.Name)

all-told : list_all is_told reserved_words ≡ true
unfolding reserved_words
all-told = refl

and-both : (a b : Bool) → (a && b) ≡ true → (a ≡ true) × (b ≡ true)
and-both true b e = (refl, e)
and-both false b e = (cc, cc)

or-second : (a b : Bool) → (a || b) ≡ true → a ≡ false → b ≡ true
or-second true b e f = cc
or-second false b e f = e

not-past : (c : ℕ) → c < code terminal.Reserved → nat_le (code terminal.Reserved) c ≡ false
not-past c less = grind (arith, nat_tests)

within : (c : ℕ) → nat_le c (code terminal.Name) ≡ true → c ≤ code terminal.Name
within c e = grind (arith, nat_tests)

-- of these words, what a word is says how it is spelled
found : (words : List (List ℕ × Terminal)) (bytes : List ℕ) → list_all is_told words ≡ true →
    code (terminal_among (λ w. w.0) (λ w. w.1) words bytes) < code terminal.Reserved → word_text (code (terminal_among (λ w. w.0) (λ w. w.1) words bytes)) ≡ bytes
found [] bytes told less = absurd (omega (arith, less))
found (w ∷ words) bytes told less =
    by (bytes_eq w.0 bytes) refl (and-both (is_told w) (list_all is_told words) told) (λ rest small. found words bytes rest small) less
  where
    by : (b : Bool) → bytes_eq w.0 bytes ≡ b → (is_told w ≡ true) × (list_all is_told words ≡ true) →
        (list_all is_told words ≡ true →
        code (terminal_among (λ w. w.0) (λ w. w.1) words bytes) < code terminal.Reserved →
        word_text (code (terminal_among (λ w. w.0) (λ w. w.1) words bytes)) ≡ bytes) →
        code (if b then w.1 else terminal_among (λ w. w.0) (λ w. w.1) words bytes) < code terminal.Reserved →
        word_text (code (if b then w.1 else terminal_among (λ w. w.0) (λ w. w.1) words bytes)) ≡ bytes
    by true e (here, rest) go small =
        let told_here = and-both (nat_le (code terminal.Reserved) (code w.1) || bytes_eq (word_text (code w.1)) w.0) (nat_le (code w.1) (code terminal.Name)) here in
        let same = or-second (nat_le (code terminal.Reserved) (code w.1)) (bytes_eq (word_text (code w.1)) w.0) told_here.0 (not-past (code w.1) small) in
        (bytes_eq-Decides (word_text (code w.1)) w.0).0 same ∙ (bytes_eq-Decides w.0 bytes).0 e
    by false e (here, rest) go small = go rest small

among-small : (words : List (List ℕ × Terminal)) (bytes : List ℕ) → list_all is_told words ≡ true →
    code (terminal_among (λ w. w.0) (λ w. w.1) words bytes) ≤ code terminal.Name
among-small [] bytes told = omega arith
among-small (w ∷ words) bytes told = by (bytes_eq w.0 bytes) (and-both (is_told w) (list_all is_told words) told) (λ rest. among-small words bytes rest)
  where
    by : (b : Bool) → (is_told w ≡ true) × (list_all is_told words ≡ true) →
        (list_all is_told words ≡ true → code (terminal_among (λ w. w.0) (λ w. w.1) words bytes) ≤ code terminal.Name) →
        code (if b then w.1 else terminal_among (λ w. w.0) (λ w. w.1) words bytes) ≤ code terminal.Name
    by true (here, rest) go =
        within (code w.1) (and-both (nat_le (code terminal.Reserved) (code w.1) || bytes_eq (word_text (code w.1)) w.0) (nat_le (code w.1) (code terminal.Name)) here).1
    by false (here, rest) go = go rest

symbol-large : (s : Sign) → code terminal.Number < code (symbol_terminal s)
symbol-large sign.Dot = lit< tt
symbol-large sign.Range = lit< tt
symbol-large sign.Comma = lit< tt
symbol-large sign.Colon = lit< tt
symbol-large sign.Open = lit< tt
symbol-large sign.Close = lit< tt
symbol-large sign.Begin = lit< tt
symbol-large sign.Finish = lit< tt
symbol-large sign.Plus = lit< tt
symbol-large sign.Minus = lit< tt
symbol-large sign.Star = lit< tt
symbol-large sign.Gets = lit< tt
symbol-large sign.Equal = lit< tt
symbol-large sign.Unequal = lit< tt
symbol-large sign.Less = lit< tt
symbol-large sign.AtMost = lit< tt
symbol-large sign.More = lit< tt
symbol-large sign.AtLeast = lit< tt

-- the symbol of that number
abbrev sign_of : ℕ → Sign
sign_of c =
    if c == code terminal.Dot then sign.Dot else if c == code terminal.Range then sign.Range else
    if c == code terminal.Comma then sign.Comma else if c == code terminal.Colon then sign.Colon else
    if c == code terminal.Open then sign.Open else if c == code terminal.Close then sign.Close else
    if c == code terminal.Begin then sign.Begin else if c == code terminal.Finish then sign.Finish else
    if c == code terminal.Plus then sign.Plus else if c == code terminal.Minus then sign.Minus else
    if c == code terminal.Star then sign.Star else if c == code terminal.Gets then sign.Gets else
    if c == code terminal.Equal then sign.Equal else if c == code terminal.Unequal then sign.Unequal else
    if c == code terminal.Less then sign.Less else if c == code terminal.AtMost then sign.AtMost else
    if c == code terminal.More then sign.More else sign.AtLeast

sign-back : (s : Sign) → sign_of (code (symbol_terminal s)) ≡ s
sign-back sign.Dot = refl
sign-back sign.Range = refl
sign-back sign.Comma = refl
sign-back sign.Colon = refl
sign-back sign.Open = refl
sign-back sign.Close = refl
sign-back sign.Begin = refl
sign-back sign.Finish = refl
sign-back sign.Plus = refl
sign-back sign.Minus = refl
sign-back sign.Star = refl
sign-back sign.Gets = refl
sign-back sign.Equal = refl
sign-back sign.Unequal = refl
sign-back sign.Less = refl
sign-back sign.AtMost = refl
sign-back sign.More = refl
sign-back sign.AtLeast = refl

-- a reserved word with a place of its own
pub reserved-text : (k : TokenKind) (bytes : List ℕ) (c : ℕ) → code (kind_terminal k bytes) ≡ c → c < code terminal.Reserved → normal_bytes k bytes ≡ word_text c
reserved-text kind.Word bytes c e less =
    sym (found reserved_words bytes all-told (omega (arith, e, less))) ∙ ap word_text e
reserved-text (kind.Number value) bytes c e less = absurd (omega (arith, e, less))
reserved-text (kind.Symbol s) bytes c e less = let large = symbol-large s in absurd (omega (arith, e, less, large))

pub symbol-spelled : (k : TokenKind) (bytes : List ℕ) (s : Sign) → code (kind_terminal k bytes) ≡ code (symbol_terminal s) → normal_bytes k bytes ≡ symbol_text s
symbol-spelled kind.Word bytes s e =
    let small = among-small reserved_words bytes all-told in
    let large = symbol-large s in
    absurd (omega (arith, e, small, large))
symbol-spelled (kind.Number value) bytes s e = let large = symbol-large s in absurd (omega (arith, e, large))
symbol-spelled (kind.Symbol r) bytes s e = ap symbol_text (sym (sign-back r) ∙ ap sign_of e ∙ sign-back s)

pub number-spelled : (k : TokenKind) (bytes : List ℕ) → code (kind_terminal k bytes) ≡ code terminal.Number → (value : ℕ) × (k ≡ kind.Number value)
number-spelled kind.Word bytes e = let small = among-small reserved_words bytes all-told in absurd (omega (arith, e, small))
number-spelled (kind.Number value) bytes e = (value, refl)
number-spelled (kind.Symbol s) bytes e = let large = symbol-large s in absurd (omega (arith, e, large))

-- Two texts with the same tokens, but for where they stand and for zeros before numbers: what is the same to the grammar.
use Rattle.std.proofs.Common.{◌≡◌, ◌∙◌, ℕ, zero, suc, true, false, List, [], ◌∷◌, length, map, refl, ap, sym}
use Rattle.std.specs.Prelude.{slice_range}
use Rattle.policy_lexer.specs.declared.token.Symbol.{Symbol as Sign}
use Rattle.policy_lexer.specs.declared.token.Symbol.TheVariants as sign
use Rattle.policy_lexer.specs.declared.token.Token.{Token}
use Rattle.policy_lexer.specs.declared.token.TokenKind.{TokenKind}
use Rattle.policy_lexer.specs.declared.token.TokenKind.TheVariants as kind
use Rattle.policy_grammar.specs.declared.terminal.Lexeme.{Lexeme}
use Rattle.policy_grammar.specs.Lexemes.{symbol_terminal, kind_terminal, kind_value, policy_lexeme, policy_lexemes}
use Rattle.policy_grammar.specs.Terminals.{code, is_word, kind_at, value_at, word_at}
use Rattle.policy_printer.proofs.Laid.{AreLaid, laid_none, laid_more}
use Rattle.policy_printer.proofs.Normal.{normal_bytes, normal}

-- the tokens us of the other text are those of the first
pub record Alike (text : List ℕ) (ts : List Lexeme) (other : List ℕ) (us : List Lexeme) : Type 0 where
  pub kind : (i : ℕ) → kind_at us i ≡ kind_at ts i
  pub value : (i : ℕ) → value_at us i ≡ value_at ts i
  pub word : (i : ℕ) → is_word (kind_at ts i) ≡ true → word_at other us i ≡ word_at text ts i
  pub size : length us ≡ length ts

pub symbol-no_word : (s : Sign) → is_word (code (symbol_terminal s)) ≡ false
symbol-no_word sign.Dot = refl
symbol-no_word sign.Range = refl
symbol-no_word sign.Comma = refl
symbol-no_word sign.Colon = refl
symbol-no_word sign.Open = refl
symbol-no_word sign.Close = refl
symbol-no_word sign.Begin = refl
symbol-no_word sign.Finish = refl
symbol-no_word sign.Plus = refl
symbol-no_word sign.Minus = refl
symbol-no_word sign.Star = refl
symbol-no_word sign.Gets = refl
symbol-no_word sign.Equal = refl
symbol-no_word sign.Unequal = refl
symbol-no_word sign.Less = refl
symbol-no_word sign.AtMost = refl
symbol-no_word sign.More = refl
symbol-no_word sign.AtLeast = refl

normal-terminal : (k : TokenKind) (bytes : List ℕ) → kind_terminal k (normal_bytes k bytes) ≡ kind_terminal k bytes
normal-terminal kind.Word bytes = refl
normal-terminal (kind.Number value) bytes = refl
normal-terminal (kind.Symbol s) bytes = refl

pub normal-word : (k : TokenKind) (bytes : List ℕ) → is_word (code (kind_terminal k bytes)) ≡ true → normal_bytes k bytes ≡ bytes
normal-word kind.Word bytes word = refl
normal-word (kind.Number value) bytes word = cc
normal-word (kind.Symbol s) bytes word = let clash = sym (symbol-no_word s) ∙ word in cc

-- a token that is laid out in the other text
laid-terminal : (text other : List ℕ) (t u : Token) → u.kind ≡ t.kind → slice_range other u.start u.end ≡ (normal text t).text →
    (policy_lexeme other u).terminal ≡ (policy_lexeme text t).terminal
laid-terminal text other t u same slice =
    ap (λ k. kind_terminal k (slice_range other u.start u.end)) same ∙ ap (kind_terminal t.kind) slice
    ∙ normal-terminal t.kind (slice_range text t.start t.end)

module _ (text other : List ℕ) where
  kinds : (ts : List Token) {us : List Token} → AreLaid other (map (normal text) ts) us → (i : ℕ) → kind_at (policy_lexemes other us) i ≡ kind_at (policy_lexemes text ts) i
  kinds [] laid_none i = refl
  kinds (t ∷ ts) (laid_more {t = u} same slice more) zero = ap code (laid-terminal text other t u same slice)
  kinds (t ∷ ts) (laid_more {t = u} same slice more) (suc i) = kinds ts more i

  values : (ts : List Token) {us : List Token} → AreLaid other (map (normal text) ts) us → (i : ℕ) → value_at (policy_lexemes other us) i ≡ value_at (policy_lexemes text ts) i
  values [] laid_none i = refl
  values (t ∷ ts) (laid_more {t = u} same slice more) zero = ap kind_value same
  values (t ∷ ts) (laid_more {t = u} same slice more) (suc i) = values ts more i

  words : (ts : List Token) {us : List Token} → AreLaid other (map (normal text) ts) us → (i : ℕ) → is_word (kind_at (policy_lexemes text ts) i) ≡ true →
      word_at other (policy_lexemes other us) i ≡ word_at text (policy_lexemes text ts) i
  words [] laid_none i word = cc
  words (t ∷ ts) (laid_more {t = u} same slice more) zero word = slice ∙ normal-word t.kind (slice_range text t.start t.end) word
  words (t ∷ ts) (laid_more {t = u} same slice more) (suc i) word = words ts more i word

  sizes : (ts : List Token) {us : List Token} → AreLaid other (map (normal text) ts) us → length (policy_lexemes other us) ≡ length (policy_lexemes text ts)
  sizes [] laid_none = refl
  sizes (t ∷ ts) (laid_more {t = u} same slice more) = ap suc (sizes ts more)

  pub alike : (ts us : List Token) → AreLaid other (map (normal text) ts) us → Alike text (policy_lexemes text ts) other (policy_lexemes other us)
  alike ts us laid = record { kind = kinds ts laid; value = values ts laid; word = words ts laid; size = sizes ts laid }

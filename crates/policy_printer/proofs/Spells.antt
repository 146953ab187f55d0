-- The tokens between two places, as they are printed.
use Rattle.std.proofs.Common.{◌≡◌, ◌∙◌, ◌<◌, ◌+◌, ℕ, zero, suc, true, List, [], ◌∷◌, ◌++◌, drop, map, decimal, refl, ap, sym, subst, arith, append_assoc}
use Rattle.std.specs.Prelude.{slice_range}
use Rattle.std.proofs.lemmas.Bool.Decides.{nat_tests}
use Rattle.policy_lexer.specs.declared.token.Symbol.{Symbol as Sign}
use Rattle.policy_lexer.specs.declared.token.Token.{Token}
use Rattle.policy_lexer.specs.declared.token.TokenKind.{TokenKind}
use Rattle.policy_grammar.specs.Lexemes.{symbol_terminal, kind_terminal, kind_value, policy_lexeme, policy_lexemes}
use Rattle.policy_grammar.specs.declared.terminal.Terminal.TheVariants as terminal
use Rattle.policy_grammar.specs.Terminals.{code, is_word, kind_at, value_at, word_at, lexeme_at}
use Rattle.policy_printer.proofs.Alike.{normal-word}
use Rattle.policy_printer.proofs.Laid.{texts}
use Rattle.policy_printer.proofs.Normal.{symbol_text, normal_bytes, normal}
use Rattle.policy_printer.proofs.WordTable.{word_text, reserved-text, symbol-spelled, number-spelled}

-- of the texts xs, those from the one place up to the other are these
pub record Spells (xs : List (List ℕ)) (at : ℕ) (ys : List (List ℕ)) (to : ℕ) : Type 0 where
  pub is : drop at xs ≡ ys ++ drop to xs

infixr 5 ◌▹◌
pub ◌▹◌ : {xs ys zs : List (List ℕ)} {at mid to : ℕ} → Spells xs at ys mid → Spells xs mid zs to → Spells xs at (ys ++ zs) to
◌▹◌ {xs = xs} {ys = ys} {zs = zs} {to = to} one other = record {
  is = one.is ∙ ap (λ (more : List (List ℕ)). ys ++ more) other.is ∙ sym (append_assoc ys zs (drop to xs));
}

pub nothing : {xs : List (List ℕ)} {at : ℕ} → Spells xs at [] at
nothing = record { is = refl }

pub spells-as : {xs ys zs : List (List ℕ)} {at to : ℕ} → ys ≡ zs → Spells xs at ys to → Spells xs at zs to
spells-as {xs = xs} {at = at} {to = to} same these = subst (λ (texts : List (List ℕ)). Spells xs at texts to) same these

module _ (text : List ℕ) where
  -- the token in that place
  record Found (tokens : List Token) (at : ℕ) : Type 0 where
    token : Token
    same : lexeme_at (policy_lexemes text tokens) at ≡ policy_lexeme text token
    drops : drop at (texts (map (normal text) tokens)) ≡ (normal text token).text ∷ drop (at + 1) (texts (map (normal text) tokens))

  find : (tokens : List Token) (at : ℕ) → 0 < kind_at (policy_lexemes text tokens) at → Found tokens at
  find [] zero some = absurd (omega (arith, some))
  find [] (suc at) some = absurd (omega (arith, some))
  find (t ∷ tokens) zero some = record { token = t; same = refl; drops = refl }
  find (t ∷ tokens) (suc at) some =
      let f = find tokens at some in
      let more : suc at + 1 ≡ suc (at + 1) = omega arith in
      record {
        token = f.token;
        same = f.same;
        drops = f.drops ∙ ap (λ n. (normal text f.token).text ∷ drop n (texts (map (normal text) (t ∷ tokens)))) (sym more);
      }

  module _ (tokens : List Token) where
    -- the token that is found there has these bytes
    spells-one : {at to : ℕ} (f : Found tokens at) (x : List ℕ) → at + 1 ≡ to → (normal text f.token).text ≡ x →
        Spells (texts (map (normal text) tokens)) at (x ∷ []) to
    spells-one {at = at} f x next is = record {
      is = f.drops ∙ ap (λ (y : List ℕ). y ∷ drop (at + 1) (texts (map (normal text) tokens))) is
          ∙ ap (λ n. x ∷ drop n (texts (map (normal text) tokens))) next;
    }

    -- a reserved word
    pub reserved : (c : ℕ) {at to : ℕ} → at + 1 ≡ to → kind_at (policy_lexemes text tokens) at ≡ c → 0 < c →
        c < code terminal.Reserved →
        Spells (texts (map (normal text) tokens)) at (word_text c ∷ []) to
    reserved c {at = at} next k some less =
        let f = find tokens at (omega (arith, k, some)) in
        spells-one f (word_text c) next
        (reserved-text f.token.kind (slice_range text f.token.start f.token.end) c (ap (λ l. code l.terminal) (sym f.same) ∙ k) less)

    pub symbol : (s : Sign) {at to : ℕ} → at + 1 ≡ to → kind_at (policy_lexemes text tokens) at ≡ code (symbol_terminal s) → 0 < code (symbol_terminal s) →
        Spells (texts (map (normal text) tokens)) at (symbol_text s ∷ []) to
    symbol s {at = at} next k some =
        let f = find tokens at (omega (arith, k, some)) in
        spells-one f (symbol_text s) next
        (symbol-spelled f.token.kind (slice_range text f.token.start f.token.end) s (ap (λ l. code l.terminal) (sym f.same) ∙ k))

    word-some : (k : ℕ) → is_word k ≡ true → 0 < k
    word-some k e = grind (arith, nat_tests)

    -- any word
    pub word : {at to : ℕ} → at + 1 ≡ to → is_word (kind_at (policy_lexemes text tokens) at) ≡ true →
        Spells (texts (map (normal text) tokens)) at (word_at text (policy_lexemes text tokens) at ∷ []) to
    word {at = at} next w =
        let f = find tokens at (word-some (kind_at (policy_lexemes text tokens) at) w) in
        spells-one f (word_at text (policy_lexemes text tokens) at) next
        (normal-word f.token.kind (slice_range text f.token.start f.token.end) (ap (λ l. is_word (code l.terminal)) (sym f.same) ∙ w)
        ∙ ap (λ l. slice_range text l.start l.end) (sym f.same))

    number-text : (k : TokenKind) (bytes : List ℕ) → code (kind_terminal k bytes) ≡ code terminal.Number → normal_bytes k bytes ≡ decimal (kind_value k)
    number-text k bytes e =
        let v = number-spelled k bytes e in
        subst (λ j. normal_bytes j bytes ≡ decimal (kind_value j)) (sym v.1) refl

    pub number : {at to : ℕ} → at + 1 ≡ to → kind_at (policy_lexemes text tokens) at ≡ code terminal.Number →
        Spells (texts (map (normal text) tokens)) at (decimal (value_at (policy_lexemes text tokens) at) ∷ []) to
    number {at = at} next k =
        let f = find tokens at (omega (arith, k)) in
        spells-one f (decimal (value_at (policy_lexemes text tokens) at)) next
        (number-text f.token.kind (slice_range text f.token.start f.token.end) (ap (λ l. code l.terminal) (sym f.same) ∙ k)
        ∙ ap (λ l. decimal l.value) (sym f.same))

-- The tokens of a text, spelled in the one way that is printed.
use Rattle.std.proofs.Common.{◌≡◌, ◌∙◌, ◌+◌, ◌-◌, ℕ, List, [], ◌∷◌, length, take, drop, map, codes, decimal, Some, refl, ap, sym, subst, arith}
use Rattle.std.specs.Prelude.{slice_range}
use Rattle.std.proofs.lemmas.List.{length-take-le}
use Rattle.policy_lexer.specs.declared.token.Symbol.{Symbol as Sign}
use Rattle.policy_lexer.specs.declared.token.Symbol.TheVariants as sign
use Rattle.policy_lexer.specs.declared.token.Token.{Token}
use Rattle.policy_lexer.specs.declared.token.TokenKind.{TokenKind}
use Rattle.policy_lexer.specs.declared.token.TokenKind.TheVariants as kind
use Rattle.policy_lexer.specs.Pieces.{token, piece_of, IsFirstPiece}
use Rattle.policy_lexer.specs.Tokens.{KeepsLimits, Reads, reads_nothing, reads_gap, reads_token}
use Rattle.policy_printer.proofs.Decimals.{decimal-piece}

abbrev pub symbol_text : Sign → List ℕ
symbol_text sign.Dot = codes "."
symbol_text sign.Range = codes ".."
symbol_text sign.Comma = codes ","
symbol_text sign.Colon = codes ":"
symbol_text sign.Open = codes "("
symbol_text sign.Close = codes ")"
symbol_text sign.Begin = codes "{"
symbol_text sign.Finish = codes "}"
symbol_text sign.Plus = codes "+"
symbol_text sign.Minus = codes "-"
symbol_text sign.Star = codes "*"
symbol_text sign.Gets = codes "="
symbol_text sign.Equal = codes "=="
symbol_text sign.Unequal = codes "!="
symbol_text sign.Less = codes "<"
symbol_text sign.AtMost = codes "<="
symbol_text sign.More = codes ">"
symbol_text sign.AtLeast = codes ">="

-- the text of a token that these bytes spell
abbrev pub normal_bytes : TokenKind → List ℕ → List ℕ
normal_bytes kind.Word bytes = bytes
normal_bytes (kind.Number value) bytes = decimal value
normal_bytes (kind.Symbol s) bytes = symbol_text s

-- a token to come: its text, and what it is
pub record Spelled : Type 0 where
  pub text : List ℕ
  pub kind : TokenKind

abbrev pub normal : List ℕ → Token → Spelled
normal text t = record { text = normal_bytes t.kind (slice_range text t.start t.end); kind = t.kind }

pub record IsToken (p : Spelled) : Type 0 where
  pub spells : piece_of p.text ≡ Some (token p.kind)
  pub keeps : KeepsLimits p.kind (length p.text)

pub data AreTokens : List Spelled → Type 0 where
  are_none : AreTokens []
  are_more : {p : Spelled} {ps : List Spelled} → IsToken p → AreTokens ps → AreTokens (p ∷ ps)

symbol-piece : (s : Sign) → piece_of (symbol_text s) ≡ Some (token (kind.Symbol s))
symbol-piece sign.Dot = refl
symbol-piece sign.Range = refl
symbol-piece sign.Comma = refl
symbol-piece sign.Colon = refl
symbol-piece sign.Open = refl
symbol-piece sign.Close = refl
symbol-piece sign.Begin = refl
symbol-piece sign.Finish = refl
symbol-piece sign.Plus = refl
symbol-piece sign.Minus = refl
symbol-piece sign.Star = refl
symbol-piece sign.Gets = refl
symbol-piece sign.Equal = refl
symbol-piece sign.Unequal = refl
symbol-piece sign.Less = refl
symbol-piece sign.AtMost = refl
symbol-piece sign.More = refl
symbol-piece sign.AtLeast = refl

normal-token : (k : TokenKind) (bytes : List ℕ) → piece_of bytes ≡ Some (token k) → KeepsLimits k (length bytes) →
    IsToken (record { text = normal_bytes k bytes; kind = k })
normal-token kind.Word bytes spells keeps = record { spells = spells; keeps = keeps }
normal-token (kind.Number value) bytes spells keeps = record { spells = decimal-piece value keeps; keeps = keeps }
normal-token (kind.Symbol s) bytes spells keeps = record { spells = symbol-piece s; keeps = tt }

-- the bytes between the ends of a token
slice-is : (text : List ℕ) (at size start end : ℕ) → start ≡ at → end ≡ at + size → slice_range text start end ≡ take size (drop at text)
slice-is text at size start end starts ends =
    let len : end - start ≡ size = omega arith in
    ap (λ n. take n (drop start text)) len ∙ ap (λ n. take size (drop n text)) starts

one-token : (text : List ℕ) (at size : ℕ) (t : Token) → t.start ≡ at → t.end ≡ at + size → IsFirstPiece (drop at text) size (token t.kind) →
    KeepsLimits t.kind size → IsToken (normal text t)
one-token text at size t starts ends first keeps =
    let slice = slice-is text at size t.start t.end starts ends in
    let len = ap length slice ∙ length-take-le size (drop at text) first.within in
    normal-token t.kind (slice_range text t.start t.end) (ap piece_of slice ∙ first.spells) (subst (KeepsLimits t.kind) (sym len) keeps)

pub normal-tokens : (text : List ℕ) {from to : ℕ} {tokens : List Token} → Reads text from tokens to → AreTokens (map (normal text) tokens)
normal-tokens text reads_nothing = are_none
normal-tokens text (reads_gap k first more) = normal-tokens text more
normal-tokens text {from = from} (reads_token t k starts ends first keeps more) =
    are_more (one-token text from k t starts ends first keeps) (normal-tokens text more)

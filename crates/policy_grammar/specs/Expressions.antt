-- The grammar of expressions. `IsTerm text ts from v to`: the tokens ts from number `from` up to number
-- `to` are the term v. The text has the bytes of the words.
use Rattle.std.specs.Prelude.{ℕ, suc, ◌+◌, ◌≡◌, Bool, true, false, List, [], ◌∷◌}
use Rattle.policy_syntax.specs.declared.syntax.IntSyntax.{IntSyntax}
use Rattle.policy_syntax.specs.declared.syntax.RangeSyntax.{RangeSyntax}
use Rattle.policy_syntax.specs.declared.syntax.Owner.{Owner}
use Rattle.policy_syntax.specs.declared.syntax.OperandSyntax.{OperandSyntax}
use Rattle.policy_syntax.specs.declared.syntax.OperandSyntax.TheVariants as operand
use Rattle.policy_syntax.specs.declared.syntax.FactorSyntax.{FactorSyntax}
use Rattle.policy_syntax.specs.declared.syntax.TimesSyntax.{TimesSyntax}
use Rattle.policy_syntax.specs.declared.syntax.TermSyntax.{TermSyntax}
use Rattle.policy_syntax.specs.declared.syntax.AddedSyntax.{AddedSyntax}
use Rattle.policy_syntax.specs.declared.syntax.ExprSyntax.{ExprSyntax}
use Rattle.policy_grammar.specs.declared.terminal.Terminal.TheVariants.{Number, Dot, Range, Minus, Star}
use Rattle.policy_grammar.specs.declared.terminal.Lexeme.{Lexeme}
use Rattle.policy_grammar.specs.Terminals.{code, kind_at, value_at, word_at, is_word}
use Rattle.policy_grammar.specs.Words.{sign_word, owner_word}

-- int = ["-"] NUMBER
pub data IsInt (ts : List Lexeme) : ℕ → IntSyntax → ℕ → Type 0 where
  int_plain : {at : ℕ} → kind_at ts at ≡ code Number →
      IsInt ts at (record { at = at; negative = false; value = value_at ts at }) (at + 1)
  int_signed : {at : ℕ} → kind_at ts at ≡ code Minus → kind_at ts (at + 1) ≡ code Number →
      IsInt ts at (record { at = at; negative = true; value = value_at ts (at + 1) }) (at + 2)

-- range = int ".." int
pub data IsRange (ts : List Lexeme) : ℕ → RangeSyntax → ℕ → Type 0 where
  range_of : {at mid to : ℕ} {low high : IntSyntax} →
      IsInt ts at low mid → kind_at ts mid ≡ code Range → IsInt ts (mid + 1) high to →
      IsRange ts at (record { at = at; low = low; high = high }) to

-- ref = ("self" | "victim" | "core" | "t") "." WORD
pub data IsOperand (text : List ℕ) (ts : List Lexeme) : ℕ → OperandSyntax → ℕ → Type 0 where
  operand_number : {at : ℕ} → kind_at ts at ≡ code Number →
      IsOperand text ts at (operand.Number (value_at ts at)) (at + 1)
  operand_reference : {at : ℕ} (owner : Owner) →
      kind_at ts at ≡ owner_word owner → kind_at ts (at + 1) ≡ code Dot → is_word (kind_at ts (at + 2)) ≡ true →
      IsOperand text ts at (operand.Reference owner (word_at text ts (at + 2))) (at + 3)

-- factor = NUMBER | "-" factor | ref
pub data IsFactor (text : List ℕ) (ts : List Lexeme) : ℕ → FactorSyntax → ℕ → Type 0 where
  factor_plain : {at to : ℕ} {v : OperandSyntax} → IsOperand text ts at v to →
      IsFactor text ts at (record { at = at; signs = 0; operand = v }) to
  factor_signed : {at to : ℕ} (f : FactorSyntax) → kind_at ts at ≡ code Minus → IsFactor text ts (at + 1) f to →
      IsFactor text ts at (record { at = at; signs = suc f.signs; operand = f.operand }) to

-- ("*" factor)*
pub data IsTimes (text : List ℕ) (ts : List Lexeme) : ℕ → List TimesSyntax → ℕ → Type 0 where
  times_none : {at : ℕ} → IsTimes text ts at [] at
  times_more : {at mid to : ℕ} {f : FactorSyntax} {rest : List TimesSyntax} →
      kind_at ts at ≡ code Star → IsFactor text ts (at + 1) f mid → IsTimes text ts mid rest to →
      IsTimes text ts at (record { at = at; factor = f } ∷ rest) to

-- term = factor ("*" factor)*
pub data IsTerm (text : List ℕ) (ts : List Lexeme) : ℕ → TermSyntax → ℕ → Type 0 where
  term_of : {at mid to : ℕ} {first : FactorSyntax} {rest : List TimesSyntax} →
      IsFactor text ts at first mid → IsTimes text ts mid rest to →
      IsTerm text ts at (record { at = at; first = first; rest = rest }) to

-- (("+" | "-") term)*
pub data IsAdded (text : List ℕ) (ts : List Lexeme) : ℕ → List AddedSyntax → ℕ → Type 0 where
  added_none : {at : ℕ} → IsAdded text ts at [] at
  added_more : {at mid to : ℕ} (minus : Bool) {t : TermSyntax} {rest : List AddedSyntax} →
      kind_at ts at ≡ sign_word minus → IsTerm text ts (at + 1) t mid → IsAdded text ts mid rest to →
      IsAdded text ts at (record { at = at; minus = minus; term = t } ∷ rest) to

-- expr = term (("+" | "-") term)*
pub data IsExpr (text : List ℕ) (ts : List Lexeme) : ℕ → ExprSyntax → ℕ → Type 0 where
  expr_of : {at mid to : ℕ} {first : TermSyntax} {rest : List AddedSyntax} →
      IsTerm text ts at first mid → IsAdded text ts mid rest to →
      IsExpr text ts at (record { at = at; first = first; rest = rest }) to

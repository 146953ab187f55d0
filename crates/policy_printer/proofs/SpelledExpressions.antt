-- The tokens of a part are its printed tokens: expressions.
use Rattle.std.proofs.Common.{◌≡◌, ◌+◌, ℕ, List, [], ◌∷◌, Bool, true, false, map, lit<, refl, arith}
use Rattle.std.specs.List.{flat_map}
use Rattle.policy_syntax.specs.declared.syntax.IntSyntax.{IntSyntax}
use Rattle.policy_syntax.specs.declared.syntax.RangeSyntax.{RangeSyntax}
use Rattle.policy_syntax.specs.declared.syntax.Owner.{Owner}
use Rattle.policy_syntax.specs.declared.syntax.Owner.TheVariants as owner
use Rattle.policy_syntax.specs.declared.syntax.OperandSyntax.{OperandSyntax}
use Rattle.policy_syntax.specs.declared.syntax.FactorSyntax.{FactorSyntax}
use Rattle.policy_syntax.specs.declared.syntax.TimesSyntax.{TimesSyntax}
use Rattle.policy_syntax.specs.declared.syntax.TermSyntax.{TermSyntax}
use Rattle.policy_syntax.specs.declared.syntax.AddedSyntax.{AddedSyntax}
use Rattle.policy_syntax.specs.declared.syntax.ExprSyntax.{ExprSyntax}
use Rattle.policy_lexer.specs.declared.token.Symbol.TheVariants as sign
use Rattle.policy_lexer.specs.declared.token.Token.{Token}
use Rattle.policy_grammar.specs.Lexemes.{reserved_words, policy_lexemes}
use Rattle.policy_grammar.specs.declared.terminal.Terminal.TheVariants as terminal
use Rattle.policy_grammar.specs.Terminals.{code, kind_at}
use Rattle.policy_grammar.specs.Words.{sign_word, owner_word}
use Rattle.policy_grammar.specs.Expressions.{IsInt, int_plain, int_signed, IsRange, range_of, IsOperand, operand_number, operand_reference, IsFactor, factor_plain, factor_signed, IsTimes, times_none, times_more, IsTerm, term_of, IsAdded, added_none, added_more, IsExpr, expr_of}
use Rattle.policy_printer.specs.WordTexts.{sign_text, owner_text}
use Rattle.policy_printer.specs.ExpressionTexts.{int_texts, range_texts, operand_texts, factor_texts, times_texts, term_texts, added_texts, expr_texts}
use Rattle.policy_printer.proofs.Laid.{texts}
use Rattle.policy_printer.proofs.Normal.{normal}
use Rattle.policy_printer.proofs.Spells.{Spells, ◌▹◌, nothing, reserved, symbol, word, number}

module _ (text : List ℕ) (tokens : List Token) where
  -- the printed tokens from one place up to the other are these
  abbrev pub Are : ℕ → List (List ℕ) → ℕ → Type 0
  Are at ys to = Spells (texts (map (normal text) tokens)) at ys to

  two : (at : ℕ) → at + 1 + 1 ≡ at + 2
  two at = omega arith

  three : (at : ℕ) → at + 2 + 1 ≡ at + 3
  three at = omega arith

  pub int-spells : {at to : ℕ} {v : IntSyntax} → IsInt (policy_lexemes text tokens) at v to → Are at (int_texts v) to
  int-spells (int_plain k) = number text tokens refl k
  int-spells {at = at} (int_signed k n) = symbol text tokens sign.Minus refl k (lit< tt) ▹ number text tokens (two at) n

  pub range-spells : {at to : ℕ} {v : RangeSyntax} → IsRange (policy_lexemes text tokens) at v to → Are at (range_texts v) to
  range-spells (range_of low k high) = int-spells low ▹ symbol text tokens sign.Range refl k (lit< tt) ▹ int-spells high

  owner-spells : {at : ℕ} (o : Owner) → kind_at (policy_lexemes text tokens) at ≡ owner_word o → Are at (owner_text o ∷ []) (at + 1)
  unfolding reserved_words
  owner-spells owner.Itself k = reserved text tokens (code terminal.Itself) refl k (lit< tt) (lit< tt)
  owner-spells owner.Victim k = reserved text tokens (code terminal.Victim) refl k (lit< tt) (lit< tt)
  owner-spells owner.Core k = reserved text tokens (code terminal.Core) refl k (lit< tt) (lit< tt)
  owner-spells owner.Thread k = reserved text tokens (code terminal.Task) refl k (lit< tt) (lit< tt)

  operand-spells : {at to : ℕ} {v : OperandSyntax} → IsOperand text (policy_lexemes text tokens) at v to → Are at (operand_texts v) to
  operand-spells (operand_number k) = number text tokens refl k
  operand-spells {at = at} (operand_reference o k d w) =
      owner-spells o k ▹ symbol text tokens sign.Dot (two at) d (lit< tt) ▹ word text tokens (three at) w

  factor-spells : {at to : ℕ} {v : FactorSyntax} → IsFactor text (policy_lexemes text tokens) at v to → Are at (factor_texts v) to
  factor-spells (factor_plain d) = operand-spells d
  factor-spells (factor_signed f k d) = symbol text tokens sign.Minus refl k (lit< tt) ▹ factor-spells d

  times-spells : {at to : ℕ} {v : List TimesSyntax} → IsTimes text (policy_lexemes text tokens) at v to → Are at (flat_map times_texts v) to
  times-spells times_none = nothing
  times-spells (times_more k d more) = (symbol text tokens sign.Star refl k (lit< tt) ▹ factor-spells d) ▹ times-spells more

  term-spells : {at to : ℕ} {v : TermSyntax} → IsTerm text (policy_lexemes text tokens) at v to → Are at (term_texts v) to
  term-spells (term_of d more) = factor-spells d ▹ times-spells more

  sign-spells : {at : ℕ} (minus : Bool) → kind_at (policy_lexemes text tokens) at ≡ sign_word minus → Are at (sign_text minus ∷ []) (at + 1)
  sign-spells true k = symbol text tokens sign.Minus refl k (lit< tt)
  sign-spells false k = symbol text tokens sign.Plus refl k (lit< tt)

  added-spells : {at to : ℕ} {v : List AddedSyntax} → IsAdded text (policy_lexemes text tokens) at v to → Are at (flat_map added_texts v) to
  added-spells added_none = nothing
  added-spells (added_more minus k d more) = (sign-spells minus k ▹ term-spells d) ▹ added-spells more

  pub expr-spells : {at to : ℕ} {v : ExprSyntax} → IsExpr text (policy_lexemes text tokens) at v to → Are at (expr_texts v) to
  expr-spells (expr_of d more) = term-spells d ▹ added-spells more

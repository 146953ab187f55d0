-- What the grammar has of some tokens, it has of tokens that are alike: expressions.
use Rattle.std.proofs.Common.{◌≡◌, ◌∙◌, ◌+◌, ℕ, List, true, false, ap, subst}
use Rattle.policy_syntax.specs.declared.syntax.IntSyntax.{IntSyntax}
use Rattle.policy_syntax.specs.declared.syntax.RangeSyntax.{RangeSyntax}
use Rattle.policy_syntax.specs.declared.syntax.OperandSyntax.{OperandSyntax}
use Rattle.policy_syntax.specs.declared.syntax.OperandSyntax.TheVariants as operand
use Rattle.policy_syntax.specs.declared.syntax.FactorSyntax.{FactorSyntax}
use Rattle.policy_syntax.specs.declared.syntax.TimesSyntax.{TimesSyntax}
use Rattle.policy_syntax.specs.declared.syntax.TermSyntax.{TermSyntax}
use Rattle.policy_syntax.specs.declared.syntax.AddedSyntax.{AddedSyntax}
use Rattle.policy_syntax.specs.declared.syntax.ExprSyntax.{ExprSyntax}
use Rattle.policy_grammar.specs.declared.terminal.Lexeme.{Lexeme}
use Rattle.policy_grammar.specs.Terminals.{kind_at, is_word}
use Rattle.policy_grammar.specs.Expressions.{IsInt, int_plain, int_signed, IsRange, range_of, IsOperand, operand_number, operand_reference, IsFactor, factor_plain, factor_signed, IsTimes, times_none, times_more, IsTerm, term_of, IsAdded, added_none, added_more, IsExpr, expr_of}
use Rattle.policy_printer.proofs.Alike.{Alike}

module _ (text : List ℕ) (ts : List Lexeme) (other : List ℕ) (us : List Lexeme) (like : Alike text ts other us) where
  -- the token is that kind there too
  pub kind-again : {k : ℕ} (at : ℕ) → kind_at ts at ≡ k → kind_at us at ≡ k
  kind-again at k = like.kind at ∙ k

  pub word-again : (at : ℕ) → is_word (kind_at ts at) ≡ true → is_word (kind_at us at) ≡ true
  word-again at word = ap is_word (like.kind at) ∙ word

  pub int-again : {at to : ℕ} {v : IntSyntax} → IsInt ts at v to → IsInt us at v to
  int-again {at = at} (int_plain k) =
      subst (λ n. IsInt us at (record { at = at; negative = false; value = n }) (at + 1)) (like.value at) (int_plain (kind-again at k))
  int-again {at = at} (int_signed k n) =
      subst (λ n. IsInt us at (record { at = at; negative = true; value = n }) (at + 2)) (like.value (at + 1))
      (int_signed (kind-again at k) (kind-again (at + 1) n))

  pub range-again : {at to : ℕ} {v : RangeSyntax} → IsRange ts at v to → IsRange us at v to
  range-again (range_of low k high) = range_of (int-again low) (kind-again _ k) (int-again high)

  operand-again : {at to : ℕ} {v : OperandSyntax} → IsOperand text ts at v to → IsOperand other us at v to
  operand-again {at = at} (operand_number k) =
      subst (λ n. IsOperand other us at (operand.Number n) (at + 1)) (like.value at) (operand_number (kind-again at k))
  operand-again {at = at} (operand_reference o k d w) =
      subst (λ (word : List ℕ). IsOperand other us at (operand.Reference o word) (at + 3)) (like.word (at + 2) w)
      (operand_reference o (kind-again at k) (kind-again (at + 1) d) (word-again (at + 2) w))

  factor-again : {at to : ℕ} {v : FactorSyntax} → IsFactor text ts at v to → IsFactor other us at v to
  factor-again (factor_plain d) = factor_plain (operand-again d)
  factor-again {at = at} (factor_signed f k d) = factor_signed f (kind-again at k) (factor-again d)

  times-again : {at to : ℕ} {v : List TimesSyntax} → IsTimes text ts at v to → IsTimes other us at v to
  times-again times_none = times_none
  times-again {at = at} (times_more k d more) = times_more (kind-again at k) (factor-again d) (times-again more)

  term-again : {at to : ℕ} {v : TermSyntax} → IsTerm text ts at v to → IsTerm other us at v to
  term-again (term_of d more) = term_of (factor-again d) (times-again more)

  added-again : {at to : ℕ} {v : List AddedSyntax} → IsAdded text ts at v to → IsAdded other us at v to
  added-again added_none = added_none
  added-again {at = at} (added_more minus k d more) = added_more minus (kind-again at k) (term-again d) (added-again more)

  pub expr-again : {at to : ℕ} {v : ExprSyntax} → IsExpr text ts at v to → IsExpr other us at v to
  expr-again (expr_of d more) = expr_of (term-again d) (added-again more)

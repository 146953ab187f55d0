-- The tokens from a place on have one tree at most, and it ends at one place: expressions.
use Rattle.std.proofs.Common.{◌≡◌, ◌==◌, ◌+◌, ℕ, suc, List, ◌∷◌, Bool, true, false, refl, arith}
use Rattle.policy_syntax.specs.declared.syntax.IntSyntax.{IntSyntax}
use Rattle.policy_syntax.specs.declared.syntax.RangeSyntax.{RangeSyntax}
use Rattle.policy_syntax.specs.declared.syntax.OperandSyntax.{OperandSyntax}
use Rattle.policy_syntax.specs.declared.syntax.OperandSyntax.TheVariants as operand
use Rattle.policy_syntax.specs.declared.syntax.FactorSyntax.{FactorSyntax}
use Rattle.policy_syntax.specs.declared.syntax.TimesSyntax.{TimesSyntax}
use Rattle.policy_syntax.specs.declared.syntax.TermSyntax.{TermSyntax}
use Rattle.policy_syntax.specs.declared.syntax.AddedSyntax.{AddedSyntax}
use Rattle.policy_syntax.specs.declared.syntax.ExprSyntax.{ExprSyntax}
use Rattle.policy_grammar.specs.declared.terminal.Lexeme.{Lexeme}
use Rattle.policy_grammar.specs.declared.terminal.Terminal.TheVariants as terminal
use Rattle.policy_grammar.specs.Terminals.{code, kind_at, word_at}
use Rattle.policy_grammar.specs.Words.{sign_word}
use Rattle.policy_grammar.specs.Expressions.{IsInt, int_plain, int_signed, IsRange, range_of, IsOperand, operand_number, operand_reference, IsFactor, factor_plain, factor_signed, IsTimes, times_none, times_more, IsTerm, term_of, IsAdded, added_none, added_more, IsExpr, expr_of}
use Rattle.policy_grammar.proofs.CompleteExpressions.{NoOperator}
use Rattle.policy_grammar.proofs.Same.{Same, same, same-ap, and-then, is-not, sign-same, owner-same, owner-small}

-- `*` doesn't stand there
abbrev pub NoStar : List Lexeme → ℕ → Type 0
NoStar ts at = (kind_at ts at == code terminal.Star) ≡ false

module _ (text : List ℕ) (ts : List Lexeme) where
  pub int-one : {at to so : ℕ} {v w : IntSyntax} → IsInt ts at v to → IsInt ts at w so → Same v to w so
  int-one (int_plain k) (int_plain l) = same
  int-one (int_plain k) (int_signed l n) = absurd (omega (arith, k, l))
  int-one (int_signed k n) (int_plain l) = absurd (omega (arith, k, l))
  int-one (int_signed k n) (int_signed l m) = same

  pub range-one : {at to so : ℕ} {v w : RangeSyntax} → IsRange ts at v to → IsRange ts at w so → Same v to w so
  range-one {at = at} (range_of low k high) (range_of low' k' high') =
      same-ap (λ p. record { at = at; low = p.0; high = p.1 })
      (and-then (λ m. IsInt ts (m + 1)) (int-one low low') high' (λ e. int-one high e))

  operand-one : {at to so : ℕ} {v w : OperandSyntax} → IsOperand text ts at v to → IsOperand text ts at w so → Same v to w so
  operand-one (operand_number k) (operand_number l) = same
  operand-one (operand_number k) (operand_reference o l d w) = let small = owner-small o in absurd (omega (arith, k, l))
  operand-one (operand_reference o k d w) (operand_number l) = let small = owner-small o in absurd (omega (arith, k, l))
  operand-one {at = at} (operand_reference o k d w) (operand_reference p l e x) =
      same-ap (λ o. operand.Reference o (word_at text ts (at + 2))) (owner-same (at + 3) o p k l)

  operand-no_sign : {at to : ℕ} {v : OperandSyntax} → IsOperand text ts at v to →
      kind_at ts at ≡ code terminal.Minus → ⊥
  operand-no_sign (operand_number k) l = omega (arith, k, l)
  operand-no_sign (operand_reference o k d w) l = let small = owner-small o in omega (arith, k, l)

  factor-one : {at to so : ℕ} {v w : FactorSyntax} → IsFactor text ts at v to → IsFactor text ts at w so → Same v to w so
  factor-one {at = at} (factor_plain d) (factor_plain e) = same-ap (λ v. record { at = at; signs = 0; operand = v }) (operand-one d e)
  factor-one (factor_plain d) (factor_signed g l e) = absurd (operand-no_sign d l)
  factor-one (factor_signed f k d) (factor_plain e) = absurd (operand-no_sign e k)
  factor-one {at = at} (factor_signed f k d) (factor_signed g l e) =
      same-ap (λ (f : FactorSyntax). record { at = at; signs = suc f.signs; operand = f.operand }) (factor-one d e)

  times-one : {at to so : ℕ} {v w : List TimesSyntax} → IsTimes text ts at v to → NoStar ts to → IsTimes text ts at w so → NoStar ts so → Same v to w so
  times-one times_none n times_none m = same
  times-one times_none n (times_more l e more) m = absurd (is-not _ (code terminal.Star) n l)
  times-one (times_more k d more) n times_none m = absurd (is-not _ (code terminal.Star) m k)
  times-one {at = at} (times_more k d more) n (times_more l e others) m =
      same-ap (λ p. record { at = at; factor = p.0 } ∷ p.1) (and-then (IsTimes text ts) (factor-one d e) others (λ o. times-one more n o m))

  term-one : {at to so : ℕ} {v w : TermSyntax} → IsTerm text ts at v to → NoStar ts to → IsTerm text ts at w so → NoStar ts so → Same v to w so
  term-one {at = at} (term_of d more) n (term_of e others) m =
      same-ap (λ p. record { at = at; first = p.0; rest = p.1 }) (and-then (IsTimes text ts) (factor-one d e) others (λ o. times-one more n o m))

  sign-no_star : (at : ℕ) (minus : Bool) → kind_at ts at ≡ sign_word minus → NoStar ts at
  sign-no_star at true k = rw k refl
  sign-no_star at false k = rw k refl

  added-no_star : {at to : ℕ} {v : List AddedSyntax} → IsAdded text ts at v to → NoOperator ts to → NoStar ts at
  added-no_star added_none n = n.star
  added-no_star (added_more minus k d more) n = sign-no_star _ minus k

  no-sign : (at : ℕ) (minus : Bool) → NoOperator ts at → kind_at ts at ≡ sign_word minus → ⊥
  no-sign at true n k = is-not _ (code terminal.Minus) n.minus k
  no-sign at false n k = is-not _ (code terminal.Plus) n.plus k

  added-one : {at to so : ℕ} {v w : List AddedSyntax} → IsAdded text ts at v to → NoOperator ts to → IsAdded text ts at w so → NoOperator ts so → Same v to w so
  added-one added_none n added_none m = same
  added-one added_none n (added_more minus l e more) m = absurd (no-sign _ minus n l)
  added-one (added_more minus k d more) n added_none m = absurd (no-sign _ minus m k)
  added-one {at = at} (added_more a k d more) n (added_more b l e others) m =
      same-ap (λ p. record { at = at; minus = p.0.0; term = p.0.1 } ∷ p.1)
      (and-then (IsAdded text ts)
      (and-then (λ i. IsTerm text ts (i + 1)) (sign-same at a b k l) e (λ o. term-one d (added-no_star more n) o (added-no_star others m)))
      others (λ o. added-one more n o m))

  pub expr-one : {at to so : ℕ} {v w : ExprSyntax} → IsExpr text ts at v to → NoOperator ts to → IsExpr text ts at w so → NoOperator ts so → Same v to w so
  expr-one {at = at} (expr_of d more) n (expr_of e others) m =
      same-ap (λ p. record { at = at; first = p.0; rest = p.1 })
      (and-then (IsAdded text ts) (term-one d (added-no_star more n) e (added-no_star others m)) others (λ o. added-one more n o m))

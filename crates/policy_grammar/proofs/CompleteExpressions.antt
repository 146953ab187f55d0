-- What the grammar has is read, up to the first limit that its tree passes: expressions.
use Rattle.std.proofs.Common.{◌≡◌, ◌<◌, ℕ, suc, ◌+◌, ◌==◌, List, ◌∷◌, refl, sym, ap, arith, lit<, Bool, true, false, None, ◌∙◌}
use Rattle.policy_syntax.specs.declared.syntax.IntSyntax.{IntSyntax}
use Rattle.policy_syntax.specs.declared.syntax.RangeSyntax.{RangeSyntax}
use Rattle.policy_syntax.specs.declared.syntax.Owner.{Owner}
use Rattle.policy_syntax.specs.declared.syntax.Owner.TheVariants as owner
use Rattle.policy_syntax.specs.declared.syntax.OperandSyntax.{OperandSyntax}
use Rattle.policy_syntax.specs.declared.syntax.FactorSyntax.{FactorSyntax}
use Rattle.policy_syntax.specs.declared.syntax.TimesSyntax.{TimesSyntax}
use Rattle.policy_syntax.specs.declared.syntax.TermSyntax.{TermSyntax}
use Rattle.policy_syntax.specs.declared.syntax.AddedSyntax.{AddedSyntax}
use Rattle.policy_syntax.specs.declared.syntax.ExprSyntax.{ExprSyntax}
use Rattle.policy_grammar.specs.declared.terminal.Lexeme.{Lexeme}
use Rattle.policy_grammar.specs.declared.terminal.Terminal.TheVariants.{Star, Plus, Minus, Number, Range}
use Rattle.policy_grammar.specs.declared.terminal.Terminal.{Terminal}
use Rattle.policy_grammar.specs.declared.terminal.Terminal.TheVariants as terminal_is
use Rattle.std.proofs.lemmas.Bool.Decides.{nat_tests}
use Rattle.policy_grammar.specs.Words.{sign_word, owner_word}
use Rattle.policy_grammar.specs.declared.limits.Limits.{Limits}
use Rattle.policy_grammar.specs.Terminals.{code, kind_at, is_word}
use Rattle.policy_grammar.specs.Expressions.{IsInt, int_plain, int_signed, IsRange, range_of, IsOperand, operand_number, operand_reference, IsFactor, factor_plain, factor_signed, IsTimes, times_none, times_more, IsTerm, term_of, IsAdded, added_none, added_more, IsExpr, expr_of}
use Rattle.policy_grammar.specs.Breaks.{deep, many, first_of, breaks_signs, breaks_factor, after_times, breaks_times, after_term, breaks_term, after_added, breaks_added, after_expr, breaks_expr}
use Rattle.policy_grammar.specs.Symbols.{Symbol, the, int, operand, dot, word, operators}
use Rattle.policy_grammar.specs.Machine.{go}
use Rattle.policy_grammar.proofs.Steps.{judged, judged-first, go-move, go-same}

-- no operator stands there
pub record NoOperator (ts : List Lexeme) (at : ℕ) : Type 0 where
  pub star : (kind_at ts at == code Star) ≡ false
  pub plus : (kind_at ts at == code Plus) ≡ false
  pub minus : (kind_at ts at == code Minus) ≡ false

pub factor-at : {text : List ℕ} {ts : List Lexeme} {at to : ℕ} {f : FactorSyntax} → IsFactor text ts at f to → f.at ≡ at
factor-at (factor_plain d) = refl
factor-at (factor_signed f k d) = refl

module _ (limits : Limits) (text : List ℕ) (ts : List Lexeme) where
  pub go-at : {m n : ℕ} (count : ℕ) (stack : List Symbol) → m ≡ n → go limits ts m count stack ≡ go limits ts n count stack
  go-at count stack e = ap (λ i. go limits ts i count stack) e

  two : (at : ℕ) → at + 1 + 1 ≡ at + 2
  two at = omega arith

  three : (at : ℕ) → at + 1 + 1 + 1 ≡ at + 3
  three at = omega arith

  -- a token that must stand there
  pub the-read : (at count : ℕ) (below : List Symbol) (terminal : Terminal) → kind_at ts at ≡ code terminal → 0 < code terminal →
      (code terminal == code terminal) ≡ true → go limits ts at count (the terminal ∷ below) ≡ go limits ts (at + 1) 0 below
  the-read at count below terminal e some same =
      go-move limits ts at (code terminal) count 0 (the terminal ∷ below) below None e some (rw same refl)

  pub int_read : {at to : ℕ} {v : IntSyntax} → IsInt ts at v to → (below : List Symbol) →
      go limits ts at 0 (int ∷ below) ≡ go limits ts to 0 below
  int_read {at = at} (int_plain k) below =
      go-move limits ts at (code terminal_is.Number) 0 0 (int ∷ below) below None k (lit< tt) refl
  int_read {at = at} (int_signed k n) below =
      go-move limits ts at (code terminal_is.Minus) 0 0 (int ∷ below) (the Number ∷ below) None k (lit< tt) refl
      ∙ the-read (at + 1) 0 below Number n (lit< tt) refl ∙ go-at 0 below (two at)

  pub range_read : {at to : ℕ} {v : RangeSyntax} → IsRange ts at v to → (below : List Symbol) →
      go limits ts at 0 (int ∷ the Range ∷ int ∷ below) ≡ go limits ts to 0 below
  range_read (range_of low k high) below =
      int_read low (the Range ∷ int ∷ below) ∙ the-read _ 0 (int ∷ below) Range k (lit< tt) refl ∙ int_read high below

  pub owner-read : (at count base depth before : ℕ) (below : List Symbol) (o : Owner) → kind_at ts at ≡ owner_word o →
      go limits ts at count (operand base depth before ∷ below) ≡ go limits ts (at + 1) count (dot base before ∷ below)
  owner-read at count base depth before below owner.Itself e = go-move limits ts at (code terminal_is.Itself) count count (operand base depth before ∷ below) _ None e (lit< tt) refl
  owner-read at count base depth before below owner.Victim e = go-move limits ts at (code terminal_is.Victim) count count (operand base depth before ∷ below) _ None e (lit< tt) refl
  owner-read at count base depth before below owner.Core e = go-move limits ts at (code terminal_is.Core) count count (operand base depth before ∷ below) _ None e (lit< tt) refl
  owner-read at count base depth before below owner.Thread e = go-move limits ts at (code terminal_is.Task) count count (operand base depth before ∷ below) _ None e (lit< tt) refl

  word-some : (kind : ℕ) → is_word kind ≡ true → 0 < kind
  word-some kind e = grind (arith, nat_tests)

  pub operand_read : {at to : ℕ} {v : OperandSyntax} → IsOperand text ts at v to → (count base depth before : ℕ) (below : List Symbol) →
      go limits ts at count (operand base depth before ∷ below) ≡ go limits ts to count (operators base before ∷ below)
  operand_read {at = at} (operand_number k) count base depth before below =
      go-move limits ts at (code terminal_is.Number) count count (operand base depth before ∷ below) _
      None k (lit< tt) refl
  operand_read {at = at} (operand_reference o k d w) count base depth before below =
      owner-read at count base depth before below o k
      ∙ go-move limits ts (at + 1) (code terminal_is.Dot) count count (dot base before ∷ below) (word base before ∷ below) None d (lit< tt) refl
      ∙ go-at count (word base before ∷ below) (two at)
      ∙ go-move limits ts (at + 2) (kind_at ts (at + 2)) count count (word base before ∷ below) (operators base before ∷ below) None refl
      (word-some (kind_at ts (at + 2)) w) (rw w refl)
      ∙ go-at count (operators base before ∷ below) (let e : at + 2 + 1 ≡ at + 3 = omega arith in e)

  pub factor_read : {at to : ℕ} {f : FactorSyntax} → IsFactor text ts at f to → (count base depth before : ℕ) (below : List Symbol) →
      go limits ts at count (operand base depth before ∷ below)
      ≡ judged (breaks_factor limits depth before f) (go limits ts to count (operators base (before + f.signs) ∷ below))
  factor_read {to = to} (factor_plain d) count base depth before below =
      operand_read d count base depth before below
      ∙ ap (λ n. go limits ts to count (operators base n ∷ below)) (let e : before ≡ before + 0 = omega arith in e)
  factor_read {at = at} {to = to} (factor_signed f k d) count base depth before below =
      let here = first_of (many limits.operators at before) (deep limits at depth) in
      go-move limits ts at (code terminal_is.Minus) count count (operand base depth before ∷ below) (operand base (depth + 1) (before + 1) ∷ below) here k (lit< tt) refl
      ∙ ap (judged here)
      (factor_read d count base (depth + 1) (before + 1) below
      ∙ ap (λ n. judged (breaks_signs limits (depth + 1) (before + 1) n f.signs) (go limits ts to count (operators base (before + 1 + f.signs) ∷ below))) (factor-at d)
      ∙ ap (λ n. judged (breaks_signs limits (depth + 1) (before + 1) (at + 1) f.signs) (go limits ts to count (operators base n ∷ below)))
      (let e : before + 1 + f.signs ≡ before + suc f.signs = omega arith in e))
      ∙ sym (judged-first here _ _)

  pub times_read : {at to : ℕ} {fs : List TimesSyntax} → IsTimes text ts at fs to → (count base before : ℕ) (below : List Symbol) →
      go limits ts at count (operators base before ∷ below)
      ≡ judged (breaks_times limits base before fs) (go limits ts to count (operators base (after_times before fs) ∷ below))
  times_read times_none count base before below = refl
  times_read {at = at} (times_more {f = f} {rest = rest} k d more) count base before below =
      go-move limits ts at (code terminal_is.Star) count count (operators base before ∷ below) (operand base base (before + 1) ∷ below) (many limits.operators at before) k (lit< tt) refl
      ∙ ap (judged (many limits.operators at before))
      (factor_read d count base base (before + 1) below
      ∙ ap (judged (breaks_factor limits base (before + 1) f)) (times_read more count base (before + 1 + f.signs) below)
      ∙ sym (judged-first (breaks_factor limits base (before + 1) f) _ _))
      ∙ sym (judged-first (many limits.operators at before) _ _)

  pub term_read : {at to : ℕ} {t : TermSyntax} → IsTerm text ts at t to → (count base before : ℕ) (below : List Symbol) →
      go limits ts at count (operand base base before ∷ below)
      ≡ judged (breaks_term limits base before t) (go limits ts to count (operators base (after_term before t) ∷ below))
  term_read (term_of {first = first} d more) count base before below =
      factor_read d count base base before below
      ∙ ap (judged (breaks_factor limits base before first)) (times_read more count base (before + first.signs) below)
      ∙ sym (judged-first (breaks_factor limits base before first) _ _)

  sign-read : (at count base before : ℕ) (below : List Symbol) (minus : Bool) → kind_at ts at ≡ sign_word minus →
      go limits ts at count (operators base before ∷ below)
      ≡ judged (many limits.operators at before) (go limits ts (at + 1) count (operand base base (before + 1) ∷ below))
  sign-read at count base before below true k =
      go-move limits ts at (code terminal_is.Minus) count count (operators base before ∷ below) _ (many limits.operators at before) k (lit< tt) refl
  sign-read at count base before below false k =
      go-move limits ts at (code terminal_is.Plus) count count (operators base before ∷ below) _ (many limits.operators at before) k (lit< tt) refl

  pub added_read : {at to : ℕ} {us : List AddedSyntax} → IsAdded text ts at us to → (count base before : ℕ) (below : List Symbol) →
      go limits ts at count (operators base before ∷ below)
      ≡ judged (breaks_added limits base before us) (go limits ts to count (operators base (after_added before us) ∷ below))
  added_read added_none count base before below = refl
  added_read {at = at} (added_more minus {t = t} {rest = rest} k d more) count base before below =
      sign-read at count base before below minus k
      ∙ ap (judged (many limits.operators at before))
      (term_read d count base (before + 1) below
      ∙ ap (judged (breaks_term limits base (before + 1) t)) (added_read more count base (after_term (before + 1) t) below)
      ∙ sym (judged-first (breaks_term limits base (before + 1) t) _ _))
      ∙ sym (judged-first (many limits.operators at before) _ _)

  -- the expression is read, and may go on
  pub expr_part : {at to : ℕ} {e : ExprSyntax} → IsExpr text ts at e to → (count base : ℕ) (below : List Symbol) →
      go limits ts at count (operand base base 0 ∷ below)
      ≡ judged (breaks_expr limits base e) (go limits ts to count (operators base (after_expr e) ∷ below))
  expr_part (expr_of {first = first} d more) count base below =
      term_read d count base 0 below
      ∙ ap (judged (breaks_term limits base 0 first)) (added_read more count base (after_term 0 first) below)
      ∙ sym (judged-first (breaks_term limits base 0 first) _ _)

  pub operators-end : (at count base before : ℕ) (below : List Symbol) → NoOperator ts at →
      go limits ts at count (operators base before ∷ below) ≡ go limits ts at count below
  operators-end at count base before below n =
      go-same limits ts at count count (operators base before ∷ below) below refl (rw (n.star, n.plus, n.minus) refl)

  pub expr_read : {at to : ℕ} {e : ExprSyntax} → IsExpr text ts at e to → NoOperator ts to → (count base : ℕ) (below : List Symbol) →
      go limits ts at count (operand base base 0 ∷ below) ≡ judged (breaks_expr limits base e) (go limits ts to count below)
  expr_read {to = to} {e = e} d n count base below =
      expr_part d count base below ∙ ap (judged (breaks_expr limits base e)) (operators-end to count base (after_expr e) below n)

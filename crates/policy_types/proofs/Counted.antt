-- The limits that a syntax keeps are those of its meaning.
use Rattle.std.proofs.Common.{◌≡◌, ℕ, zero, suc, ◌+◌, ◌<◌, ◌≤◌, Bool, true, false, List, [], ◌∷◌, refl, sym, ap, subst, ◌∙◌, arith, Option, Some, None}
use Rattle.std.proofs.lemmas.Bool.Decides.{nat_tests}
use Rattle.policy_syntax.specs.declared.syntax.FactorSyntax.{FactorSyntax}
use Rattle.policy_syntax.specs.declared.syntax.OperandSyntax.{OperandSyntax}
use Rattle.policy_syntax.specs.declared.syntax.OperandSyntax.TheVariants.{Number, Reference}
use Rattle.policy_syntax.specs.declared.syntax.TimesSyntax.{TimesSyntax}
use Rattle.policy_syntax.specs.declared.syntax.TermSyntax.{TermSyntax}
use Rattle.policy_syntax.specs.declared.syntax.AddedSyntax.{AddedSyntax}
use Rattle.policy_syntax.specs.declared.syntax.ExprSyntax.{ExprSyntax}
use Rattle.policy_tree.specs.Trees.{ExprTree, times}
use Rattle.policy_grammar.specs.declared.fault.ParseFault.{ParseFault}
use Rattle.policy_grammar.specs.declared.limits.Limits.{Limits}
use Rattle.policy_grammar.specs.Breaks.{after_added, after_expr, after_term, after_times, breaks_added, breaks_expr, breaks_factor, breaks_signs, breaks_term, breaks_times, deep, first_of, many}
use Rattle.policy_eval.specs.Forms.{operators_of}
use Rattle.policy_types.specs.declared.scope.Scope.{Scope}
use Rattle.policy_types.specs.Expressions.{added_meaning, expr_meaning, factor_meaning, joined, operand_meaning, signed, term_meaning, times_meaning}

-- neither passes a limit
pub keeps_parts : (a b : Option ParseFault) → first_of a b ≡ None → (a ≡ None) × (b ≡ None)
keeps_parts None b keeps = (refl, keeps)
keeps_parts (Some fault) b keeps = absurd (cc)

-- there were fewer than the limit
pub keeps_many : (limit at count : ℕ) → many limit at count ≡ None → count < limit
keeps_many limit at count keeps = grind (arith, nat_tests)

signs_of : (n : ℕ) (e : ExprTree) → operators_of (signed n e) ≡ operators_of e + n
signs_of zero e = omega arith
signs_of (suc n) e = let inner = signs_of n e in omega arith

module _ (scope : Scope) where
  operand_of : (v : OperandSyntax) → operators_of (operand_meaning scope v) ≡ 0
  operand_of (Number value) = refl
  operand_of (Reference owner word) = refl

  factor_of : (f : FactorSyntax) → operators_of (factor_meaning scope f) ≡ f.signs
  factor_of f = let signs = signs_of f.signs (operand_meaning scope f.operand) in let none = operand_of f.operand in omega arith

  times_of : (before : ℕ) (left : ExprTree) (rest : List TimesSyntax) → after_times (before + operators_of left) rest ≡ before + operators_of (times_meaning scope left rest)
  times_of before left [] = refl
  times_of before left (t ∷ rest) =
      let right = factor_meaning scope t.factor in let signs = factor_of t.factor in
      ap (λ n. after_times n rest) (omega arith) ∙ times_of before (times left right) rest

  term_of : (before : ℕ) (t : TermSyntax) → after_term before t ≡ before + operators_of (term_meaning scope t)
  term_of before t = ap (λ n. after_times (before + n) t.rest) (sym (factor_of t.first)) ∙ times_of before (factor_meaning scope t.first) t.rest

  joined_of : (minus : Bool) (l r : ExprTree) → operators_of (joined minus l r) ≡ operators_of l + operators_of r + 1
  joined_of true l r = refl
  joined_of false l r = refl

  added_of : (left : ExprTree) (rest : List AddedSyntax) → after_added (operators_of left) rest ≡ operators_of (added_meaning scope left rest)
  added_of left [] = refl
  added_of left (a ∷ rest) =
      let right = term_meaning scope a.term in let sum = joined_of a.minus left right in
      let term = term_of (operators_of left + 1) a.term in
      ap (λ n. after_added n rest) (omega arith) ∙ added_of (joined a.minus left right) rest

  expr_of : (e : ExprSyntax) → after_expr e ≡ operators_of (expr_meaning scope e)
  expr_of e = ap (λ n. after_added n e.rest) (term_of 0 e.first ∙ zero_plus (operators_of (term_meaning scope e.first))) ∙ added_of (term_meaning scope e.first) e.rest
    where
      zero_plus : (n : ℕ) → 0 + n ≡ n
      zero_plus n = omega arith

signs_few : (limits : Limits) (depth operators at signs : ℕ) → operators ≤ limits.operators → breaks_signs limits depth operators at signs ≡ None → operators + signs ≤ limits.operators
signs_few limits depth operators at zero few keeps = omega arith
signs_few limits depth operators at (suc signs) few keeps =
    let parts = keeps_parts (first_of (many limits.operators at operators) (deep limits at depth)) (breaks_signs limits (depth + 1) (operators + 1) (at + 1) signs) keeps in
    let here = keeps_parts (many limits.operators at operators) (deep limits at depth) parts.0 in
    let less = keeps_many limits.operators at operators here.0 in
    let rest = signs_few limits (depth + 1) (operators + 1) (at + 1) signs (omega arith) parts.1 in
    omega arith

times_few : (limits : Limits) (depth operators : ℕ) (rest : List TimesSyntax) → operators ≤ limits.operators → breaks_times limits depth operators rest ≡ None → after_times operators rest ≤ limits.operators
times_few limits depth operators [] few keeps = few
times_few limits depth operators (t ∷ rest) few keeps =
    let parts = keeps_parts (many limits.operators t.at operators) (first_of (breaks_factor limits depth (operators + 1) t.factor) (breaks_times limits depth (operators + 1 + t.factor.signs) rest)) keeps in
    let less = keeps_many limits.operators t.at operators parts.0 in
    let later = keeps_parts (breaks_factor limits depth (operators + 1) t.factor) (breaks_times limits depth (operators + 1 + t.factor.signs) rest) parts.1 in
    times_few limits depth (operators + 1 + t.factor.signs) rest (signs_few limits depth (operators + 1) t.factor.at t.factor.signs (omega arith) later.0) later.1

term_few : (limits : Limits) (depth operators : ℕ) (t : TermSyntax) → operators ≤ limits.operators → breaks_term limits depth operators t ≡ None → after_term operators t ≤ limits.operators
term_few limits depth operators t few keeps =
    let parts = keeps_parts (breaks_factor limits depth operators t.first) (breaks_times limits depth (operators + t.first.signs) t.rest) keeps in
    times_few limits depth (operators + t.first.signs) t.rest (signs_few limits depth operators t.first.at t.first.signs few parts.0) parts.1

added_few : (limits : Limits) (depth operators : ℕ) (rest : List AddedSyntax) → operators ≤ limits.operators → breaks_added limits depth operators rest ≡ None → after_added operators rest ≤ limits.operators
added_few limits depth operators [] few keeps = few
added_few limits depth operators (a ∷ rest) few keeps =
    let parts = keeps_parts (many limits.operators a.at operators) (first_of (breaks_term limits depth (operators + 1) a.term) (breaks_added limits depth (after_term (operators + 1) a.term) rest)) keeps in
    let less = keeps_many limits.operators a.at operators parts.0 in
    let later = keeps_parts (breaks_term limits depth (operators + 1) a.term) (breaks_added limits depth (after_term (operators + 1) a.term) rest) parts.1 in
    added_few limits depth (after_term (operators + 1) a.term) rest (term_few limits depth (operators + 1) a.term (omega arith) later.0) later.1

pub expr_few : (limits : Limits) (scope : Scope) (depth : ℕ) (e : ExprSyntax) → breaks_expr limits depth e ≡ None → operators_of (expr_meaning scope e) ≤ limits.operators
expr_few limits scope depth e keeps =
    let parts = keeps_parts (breaks_term limits depth 0 e.first) (breaks_added limits depth (after_term 0 e.first) e.rest) keeps in
    subst (λ n. n ≤ limits.operators) (expr_of scope e)
    (added_few limits depth (after_term 0 e.first) e.rest (term_few limits depth 0 e.first (omega arith) parts.0) parts.1)

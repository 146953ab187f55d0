-- The faults of an expression stand in the order of its tokens.
use Rattle.std.proofs.Common.{◌≡◌, ℕ, suc, ◌+◌, ◌^◌, ◌<◌, ◌≤◌, Bool, true, false, not, ◌&&◌, List, [], ◌∷◌, ◌++◌, refl, sym, subst, arith, append_assoc, Option, Some, None, if◌then◌else◌}
use Rattle.policy_syntax.specs.declared.syntax.Owner.{Owner}
use Rattle.policy_syntax.specs.declared.syntax.OperandSyntax.{OperandSyntax}
use Rattle.policy_syntax.specs.declared.syntax.FactorSyntax.{FactorSyntax}
use Rattle.policy_syntax.specs.declared.syntax.TimesSyntax.{TimesSyntax}
use Rattle.policy_syntax.specs.declared.syntax.TermSyntax.{TermSyntax}
use Rattle.policy_syntax.specs.declared.syntax.AddedSyntax.{AddedSyntax}
use Rattle.policy_syntax.specs.declared.syntax.ExprSyntax.{ExprSyntax}
use Rattle.policy_tree.specs.Trees.{ExprTree, times}
use Rattle.policy_grammar.specs.declared.terminal.Lexeme.{Lexeme}
use Rattle.policy_grammar.specs.Expressions.{IsOperand, operand_number, operand_reference, IsFactor, factor_plain, factor_signed, IsTimes, times_none, times_more, IsTerm, term_of, IsAdded, added_none, added_more, IsExpr, expr_of}
use Rattle.policy_grammar.specs.Terminals.{word_at}
use Rattle.policy_eval.specs.Forms.{has_reference}
use Rattle.policy_types.specs.declared.fault.TypeFault.TheVariants.{Unknown, NotLinear, NotHere, Big}
use Rattle.policy_types.specs.declared.scope.Scope.{Scope}
use Rattle.policy_types.specs.declared.sites.Feature.{Feature}
use Rattle.policy_types.specs.declared.sites.Site.{Site}
use Rattle.policy_types.specs.Expressions.{added_faults, big_faults, expr_faults, factor_faults, factor_meaning, feature_faults, joined, operand_faults, operand_meaning, product_faults, sign_faults, signed, term_faults, term_meaning, times_faults}
use Rattle.policy_types.specs.Faults.{behind}
use Rattle.policy_types.specs.Forms.{has_form, has_small_form}
use Rattle.policy_types.specs.References.{allows, feature_of}
use Rattle.policy_types.proofs.Firsts.{behind_none}
use Rattle.policy_types.proofs.Spans.{Spans, behind_is, spans_append, spans_none, spans_one, spans_where}

feature_spans : (site : Site) (from to at : ℕ) (owner : Owner) (found : Option Feature) → from ≤ at → at < to → Spans from to (feature_faults site at owner found)
feature_spans site from to at owner None low high = spans_one from to (Unknown at) low high
feature_spans site from to at owner (Some feature) low high = spans_where from to (not (allows site owner feature)) (NotHere at) low high

big_spans : (at to : ℕ) (e : ExprTree) → at < to → Spans at to (big_faults at e)
big_spans at to e less = spans_where at to (has_form e && not (has_small_form e)) (Big at) (omega arith) less

product_spans : (at to : ℕ) (l r : ExprTree) → at < to → Spans at to (product_faults at l r)
product_spans at to l r less = either (has_reference l && has_reference r)
  where
    either : (b : Bool) → Spans at to (if b then NotLinear at ∷ [] else big_faults at (times l r))
    either true = spans_one at to (NotLinear at) (omega arith) less
    either false = big_spans at to (times l r) less

module _ (text : List ℕ) (ts : List Lexeme) (scope : Scope) (site : Site) where
  operand_spans : {at to : ℕ} {v : OperandSyntax} → IsOperand text ts at v to → to ≤ 2 ^ 32 → Spans at to (operand_faults scope site at v)
  operand_spans {at = at} {to = to} (operand_number k) room = spans_where at to _ (Big at) (omega arith) (omega arith)
  operand_spans {at = at} {to = to} (operand_reference owner k dot word) room =
      let here = behind_is at 2 (omega arith) in
      feature_spans site at to (behind at 2) owner (feature_of scope owner (word_at text ts (at + 2))) (omega arith) (omega arith)

  factor_at : {at to : ℕ} {f : FactorSyntax} → IsFactor text ts at f to → f.at ≡ at
  factor_at (factor_plain k) = refl
  factor_at (factor_signed f k d) = refl

  operand_less : {at to : ℕ} {v : OperandSyntax} → IsOperand text ts at v to → at < to
  operand_less (operand_number k) = omega arith
  operand_less (operand_reference owner k dot word) = omega arith

  factor_less : {at to : ℕ} {f : FactorSyntax} → IsFactor text ts at f to → at < to
  factor_less (factor_plain d) = operand_less d
  factor_less (factor_signed f k d) = let less = factor_less d in omega arith

  factor_spans : {at to : ℕ} {f : FactorSyntax} → IsFactor text ts at f to → to ≤ 2 ^ 32 → Spans at to (factor_faults scope site f)
  factor_spans {at = at} {to = to} (factor_plain {v = v} d) room =
      let less = operand_less d in
      subst (λ n. Spans at to (operand_faults scope site n v)) (sym (behind_none at (omega arith))) (operand_spans d room)
  factor_spans {at = at} {to = to} (factor_signed f k d) room =
      let less = factor_less d in let same = factor_at d in let e = operand_meaning scope f.operand in
      let next : behind at 1 ≡ f.at = omega arith in
      let last : behind at (suc f.signs) ≡ behind f.at f.signs = omega arith in
      let sign = big_faults at (signed (suc f.signs) e) in
      let rest : Spans (at + 1) to (sign_faults (behind at 1) f.signs e ++ operand_faults scope site (behind at (suc f.signs)) f.operand) = rw (next, last) (factor_spans d room) in
      subst (λ xs. Spans at to xs) (sym (append_assoc sign (sign_faults (behind at 1) f.signs e) (operand_faults scope site (behind at (suc f.signs)) f.operand)))
      (spans_append at (at + 1) to sign (sign_faults (behind at 1) f.signs e ++ operand_faults scope site (behind at (suc f.signs)) f.operand)
      (big_spans at (at + 1) (signed (suc f.signs) e) (omega arith)) rest)

  times_spans : {at to : ℕ} {rest : List TimesSyntax} (left : ExprTree) → IsTimes text ts at rest to → to ≤ 2 ^ 32 → Spans at to (times_faults scope site left rest)
  times_spans {at = at} left times_none room = spans_none at at (omega arith)
  times_spans {at = at} {to = to} left (times_more {mid = mid} {f = f} {rest = rest} k d more) room =
      let right = factor_meaning scope f in let later = times_spans (times left right) more room in let end = later.ordered in
      let factor = factor_spans d (omega arith) in let start = factor.ordered in
      spans_append at (at + 1) to (product_faults at left right) (factor_faults scope site f ++ times_faults scope site (times left right) rest)
      (product_spans at (at + 1) left right (omega arith))
      (spans_append (at + 1) mid to (factor_faults scope site f) (times_faults scope site (times left right) rest) factor later)

  term_spans : {at to : ℕ} {t : TermSyntax} → IsTerm text ts at t to → to ≤ 2 ^ 32 → Spans at to (term_faults scope site t)
  term_spans {at = at} {to = to} (term_of {mid = mid} {first = first} {rest = rest} d more) room =
      let later = times_spans (factor_meaning scope first) more room in let end = later.ordered in
      spans_append at mid to (factor_faults scope site first) (times_faults scope site (factor_meaning scope first) rest) (factor_spans d (omega arith)) later

  added_spans : {at to : ℕ} {rest : List AddedSyntax} (left : ExprTree) → IsAdded text ts at rest to → to ≤ 2 ^ 32 → Spans at to (added_faults scope site left rest)
  added_spans {at = at} left added_none room = spans_none at at (omega arith)
  added_spans {at = at} {to = to} left (added_more {mid = mid} minus {t = t} {rest = rest} k d more) room =
      let sum = joined minus left (term_meaning scope t) in let later = added_spans sum more room in let end = later.ordered in
      let term = term_spans d (omega arith) in let start = term.ordered in
      spans_append at (at + 1) to (big_faults at sum) (term_faults scope site t ++ added_faults scope site sum rest)
      (big_spans at (at + 1) sum (omega arith))
      (spans_append (at + 1) mid to (term_faults scope site t) (added_faults scope site sum rest) term later)

  pub expr_spans : {at to : ℕ} {e : ExprSyntax} → IsExpr text ts at e to → to ≤ 2 ^ 32 → Spans at to (expr_faults scope site e)
  expr_spans {at = at} {to = to} (expr_of {mid = mid} {first = first} {rest = rest} d more) room =
      let later = added_spans (term_meaning scope first) more room in let end = later.ordered in
      spans_append at mid to (term_faults scope site first) (added_faults scope site (term_meaning scope first) rest) (term_spans d (omega arith)) later

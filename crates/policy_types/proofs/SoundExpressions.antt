-- The meaning of an expression that breaks no rule and keeps the limits is a resolved expression.
use Rattle.std.proofs.Common.{◌≡◌, ℕ, zero, suc, ◌≤◌, pos, Bool, true, List, [], ◌∷◌, ◌++◌, length}
use Rattle.policy_syntax.specs.declared.syntax.Owner.{Owner}
use Rattle.policy_syntax.specs.declared.syntax.OperandSyntax.{OperandSyntax}
use Rattle.policy_syntax.specs.declared.syntax.OperandSyntax.TheVariants.{Number, Reference}
use Rattle.policy_syntax.specs.declared.syntax.FactorSyntax.{FactorSyntax}
use Rattle.policy_syntax.specs.declared.syntax.TimesSyntax.{TimesSyntax}
use Rattle.policy_syntax.specs.declared.syntax.TermSyntax.{TermSyntax}
use Rattle.policy_syntax.specs.declared.syntax.AddedSyntax.{AddedSyntax}
use Rattle.policy_syntax.specs.declared.syntax.ExprSyntax.{ExprSyntax}
use Rattle.policy_tree.specs.Meaning.{Meaning}
use Rattle.policy_tree.specs.Trees.{ExprTree, times}
use Rattle.level_policy.specs.ResolvedLevels.{is_core_attribute}
use Rattle.policy_eval.specs.Sites as eval
use Rattle.policy_types.specs.declared.fault.TypeFault.TheVariants.{Big}
use Rattle.policy_types.specs.declared.scope.Scope.{Scope}
use Rattle.policy_types.specs.declared.sites.Site.{Site}
use Rattle.policy_types.specs.declared.sites.Site.TheVariants.{Within}
use Rattle.policy_types.specs.Expressions.{added_faults, added_meaning, big_faults, expr_faults, expr_meaning, factor_faults, factor_meaning, feature_faults, joined, operand_faults, operand_meaning, product_faults, sign_faults, signed, term_faults, term_meaning, times_faults, times_meaning}
use Rattle.policy_types.specs.Faults.{behind}
use Rattle.policy_types.specs.Forms.{is_small}
use Rattle.policy_types.specs.References.{feature_of, reference_of}
use Rattle.policy_types.proofs.Allowed.{declared, reference_allowed, reference_known, reference_near, site_of}
use Rattle.policy_types.proofs.Firsts.{none_parts, where_not}
use Rattle.policy_types.proofs.Linear.{IsSound, sound_joined, sound_negation, sound_number, sound_times, sound_variable}

-- the references of an expression that breaks no rule of a site pass the test that each such reference passes
module _ (scope : Scope) (site : Site) (test : ℕ → Bool)
    (passes : (at : ℕ) (owner : Owner) (word : List ℕ) → feature_faults site at owner (feature_of scope owner word) ≡ [] → test (reference_of scope owner word) ≡ true) where
  abbrev Sound : ExprTree → Type 0
  Sound e = IsSound test e

  sound_operand : (at : ℕ) (v : OperandSyntax) → operand_faults scope site at v ≡ [] → Sound (operand_meaning scope v)
  sound_operand at (Number value) none =
      sound_number test value (where_not (is_small (pos value)) (Big at) none)
  sound_operand at (Reference owner word) none =
      sound_variable test (reference_of scope owner word) (reference_known scope owner word)
      (passes (behind at 2) owner word none)

  sound_signed : (at n : ℕ) (e : ExprTree) → Sound e → sign_faults at n e ≡ [] → Sound (signed n e)
  sound_signed at zero e is none = is
  sound_signed at (suc n) e is none =
      let parts = none_parts (big_faults at (signed (suc n) e)) (sign_faults (behind at 1) n e) none in
      sound_negation test at (signed n e) (sound_signed (behind at 1) n e is parts.1) parts.0

  sound_factor : (f : FactorSyntax) → factor_faults scope site f ≡ [] → Sound (factor_meaning scope f)
  sound_factor f none =
      let parts = none_parts (sign_faults f.at f.signs (operand_meaning scope f.operand)) (operand_faults scope site (behind f.at f.signs) f.operand) none in
      sound_signed f.at f.signs (operand_meaning scope f.operand) (sound_operand (behind f.at f.signs) f.operand parts.1) parts.0

  sound_factors : (left : ExprTree) (rest : List TimesSyntax) → Sound left → times_faults scope site left rest ≡ [] → Sound (times_meaning scope left rest)
  sound_factors left [] is none = is
  sound_factors left (t ∷ rest) is none =
      let right = factor_meaning scope t.factor in
      let parts = none_parts (product_faults t.at left right) (factor_faults scope site t.factor ++ times_faults scope site (times left right) rest) none in
      let later = none_parts (factor_faults scope site t.factor) (times_faults scope site (times left right) rest) parts.1 in
      sound_factors (times left right) rest (sound_times test t.at left right is (sound_factor t.factor later.0) parts.0) later.1

  sound_term : (t : TermSyntax) → term_faults scope site t ≡ [] → Sound (term_meaning scope t)
  sound_term t none =
      let first = factor_meaning scope t.first in
      let parts = none_parts (factor_faults scope site t.first) (times_faults scope site first t.rest) none in
      sound_factors first t.rest (sound_factor t.first parts.0) parts.1

  sound_terms : (left : ExprTree) (rest : List AddedSyntax) → Sound left → added_faults scope site left rest ≡ [] → Sound (added_meaning scope left rest)
  sound_terms left [] is none = is
  sound_terms left (a ∷ rest) is none =
      let right = term_meaning scope a.term in let sum = joined a.minus left right in
      let parts = none_parts (big_faults a.at sum) (term_faults scope site a.term ++ added_faults scope site sum rest) none in
      let later = none_parts (term_faults scope site a.term) (added_faults scope site sum rest) parts.1 in
      sound_terms sum rest (sound_joined test a.at a.minus left right is (sound_term a.term later.0) parts.0) later.1

  pub passing_expr : (e : ExprSyntax) → expr_faults scope site e ≡ [] → IsSound test (expr_meaning scope e)
  passing_expr e none =
      let first = term_meaning scope e.first in
      let parts = none_parts (term_faults scope site e.first) (added_faults scope site first e.rest) none in
      sound_terms first e.rest (sound_term e.first parts.0) parts.1

module _ (p : Meaning) (cores : length p.core_attrs ≤ 8) (threads : length p.thread_attrs ≤ 8) where
  pub sound_expr : (site : Site) (e : ExprSyntax) → expr_faults (declared p) site e ≡ [] → IsSound (eval.allows p (site_of site)) (expr_meaning (declared p) e)
  sound_expr site = passing_expr (declared p) site (eval.allows p (site_of site)) (reference_allowed p cores threads site)

  -- in a `within` it refers to attributes of the two cores alone
  pub near_expr : (e : ExprSyntax) → expr_faults (declared p) Within e ≡ [] → IsSound (is_core_attribute p) (expr_meaning (declared p) e)
  near_expr = passing_expr (declared p) Within (is_core_attribute p) (reference_near p cores threads)

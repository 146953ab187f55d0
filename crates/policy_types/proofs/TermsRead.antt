-- A term as far as it is read.
use Rattle.std.proofs.Common.{◌≡◌, ℕ, ◌+◌, ◌<◌, Bool, true, false, ◌&&◌, List, [], ◌∷◌, ◌++◌, length, drop, get_or, refl, sym, subst, ◌∙◌}
use Rattle.policy_syntax.specs.declared.syntax.TimesSyntax.{TimesSyntax}
use Rattle.policy_syntax.specs.declared.syntax.TermSyntax.{TermSyntax}
use Rattle.policy_tree.specs.Trees.{ExprTree, times}
use Rattle.policy_eval.specs.Forms.{has_reference}
use Rattle.policy_types.specs.declared.products.Product.{Product}
use Rattle.policy_types.specs.declared.scope.Scope.{Scope}
use Rattle.policy_types.specs.declared.sites.Site.{Site}
use Rattle.policy_types.specs.declared.fault.TypeFault.{TypeFault}
use Rattle.policy_types.specs.Faults.{IsFirst}
use Rattle.policy_types.proofs.Firsts.{drop_item, first_behind, first_front}
use Rattle.policy_types.specs.Expressions.{factor_faults, factor_meaning, product_faults, term_meaning, times_faults, times_meaning}
use Rattle.policy_types.specs.Forms.{has_form}
use Rattle.policy_types.specs.Products.{IsKnown, IsProduct}

-- what was read of the term has that linear form, and these factors are left
pub record IsReadTo (scope : Scope) (t : TermSyntax) (rest : List TimesSyntax) (p : Product) : Type 0 where
  pub left : ExprTree
  pub same : times_meaning scope left rest ≡ term_meaning scope t
  pub is : IsProduct p left
  pub known : IsKnown p.variable

-- no factor more gives a linear form back
pub times_unformed : (scope : Scope) (left : ExprTree) (rest : List TimesSyntax) → has_form left ≡ false → has_form (times_meaning scope left rest) ≡ false
times_unformed scope left [] none = none
times_unformed scope left (t ∷ rest) none = times_unformed scope (times left (factor_meaning scope t.factor)) rest (rw none refl)

-- a product of two references among the factors
pub refer_unformed : (scope : Scope) (t : TermSyntax) (left : ExprTree) (items : List TimesSyntax) (at : ℕ) (x : TimesSyntax) → at < length items → x ≡ get_or items at x → times_meaning scope left (drop at items) ≡ term_meaning scope t → (has_reference left && has_reference (factor_meaning scope x.factor)) ≡ true → has_form (term_meaning scope t) ≡ false
refer_unformed scope t left items at x inside here same both =
    rw (← same, drop_item items at x inside here)
    (times_unformed scope (times left (factor_meaning scope x.factor)) (drop (at + 1) items)
    (rw both (either (has_form left) (has_form (factor_meaning scope x.factor)))))
  where
    either : (a b : Bool) → (a && (b && false)) ≡ false
    either true true = refl
    either true false = refl
    either false b = refl

-- the faults of a factor among those that are left, and of its sign
module _ (scope : Scope) (site : Site) (left : ExprTree) (items : List TimesSyntax) (at : ℕ) (x : TimesSyntax) (inside : at < length items) (here : x ≡ get_or items at x) where
  split : times_faults scope site left (drop at items) ≡ product_faults x.at left (factor_meaning scope x.factor) ++ (factor_faults scope site x.factor ++ times_faults scope site (times left (factor_meaning scope x.factor)) (drop (at + 1) items))
  split = rw (drop_item items at x inside here) refl

  pub sign_first : (whole : List TypeFault) (fault : TypeFault) → times_faults scope site left (drop at items) ≡ whole → IsFirst (product_faults x.at left (factor_meaning scope x.factor)) fault → IsFirst whole fault
  sign_first whole fault same is =
      subst (λ xs. IsFirst xs fault) (sym split ∙ same) (first_front (product_faults x.at left (factor_meaning scope x.factor)) _ fault is)

  pub factor_second : (whole : List TypeFault) (fault : TypeFault) → times_faults scope site left (drop at items) ≡ whole → product_faults x.at left (factor_meaning scope x.factor) ≡ [] → IsFirst (factor_faults scope site x.factor) fault → IsFirst whole fault
  factor_second whole fault same none is =
      subst (λ xs. IsFirst xs fault) (sym split ∙ same)
      (first_behind (product_faults x.at left (factor_meaning scope x.factor)) _ fault none (first_front (factor_faults scope site x.factor) _ fault is))

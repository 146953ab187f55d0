-- A sum as far as it is read.
use Rattle.std.proofs.Common.{◌≡◌, ℕ, ◌+◌, ◌<◌, List, [], ◌++◌, length, drop, get_or, refl, sym, ap, subst, ◌∙◌}
use Rattle.policy_syntax.specs.declared.syntax.AddedSyntax.{AddedSyntax}
use Rattle.policy_tree.specs.Trees.{ExprTree}
use Rattle.policy_types.specs.declared.fault.TypeFault.{TypeFault}
use Rattle.policy_types.specs.declared.scope.Scope.{Scope}
use Rattle.policy_types.specs.declared.sites.Site.{Site}
use Rattle.policy_types.specs.Expressions.{added_faults, added_meaning, big_faults, joined, term_faults, term_meaning}
use Rattle.policy_types.specs.Faults.{IsFirst}
use Rattle.policy_types.proofs.Firsts.{drop_item, first_behind, first_front, none_front}

-- the faults of a term among those that are left, and of its sign
module _ (scope : Scope) (site : Site) (left : ExprTree) (items : List AddedSyntax) (at : ℕ) (x : AddedSyntax) (inside : at < length items) (here : x ≡ get_or items at x) where
  sum : ExprTree
  sum = joined x.minus left (term_meaning scope x.term)

  split : added_faults scope site left (drop at items) ≡ big_faults x.at sum ++ (term_faults scope site x.term ++ added_faults scope site sum (drop (at + 1) items))
  unfolding sum
  split = rw (drop_item items at x inside here) refl

  pub term_second : (whole : List TypeFault) (fault : TypeFault) → added_faults scope site left (drop at items) ≡ whole → big_faults x.at (joined x.minus left (term_meaning scope x.term)) ≡ [] → IsFirst (term_faults scope site x.term) fault → IsFirst whole fault
  unfolding sum
  term_second whole fault same none is =
      subst (λ xs. IsFirst xs fault) (sym split ∙ same)
      (first_behind (big_faults x.at sum) _ fault none (first_front (term_faults scope site x.term) _ fault is))

  pub sum_on : (whole : List TypeFault) → added_faults scope site left (drop at items) ≡ whole → big_faults x.at (joined x.minus left (term_meaning scope x.term)) ≡ [] → term_faults scope site x.term ≡ [] → added_faults scope site (joined x.minus left (term_meaning scope x.term)) (drop (at + 1) items) ≡ whole
  unfolding sum
  sum_on whole same none also =
      sym (none_front (term_faults scope site x.term) _ also) ∙ (sym (none_front (big_faults x.at sum) _ none) ∙ (sym split ∙ same))

  pub meaning_on : (whole : ExprTree) → added_meaning scope left (drop at items) ≡ whole → added_meaning scope (joined x.minus left (term_meaning scope x.term)) (drop (at + 1) items) ≡ whole
  meaning_on whole same = sym (ap (added_meaning scope left) (drop_item items at x inside here)) ∙ same

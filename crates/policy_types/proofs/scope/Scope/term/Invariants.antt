-- What is read breaks no rule, and has the linear form so far.
use Rattle.std.proofs.Common.{◌≡◌, drop, true}
use Rattle.policy_tree.specs.Trees.{expr_tree}
use Rattle.policy_types.specs.Expressions.{term_faults, term_meaning, times_faults, times_meaning}
use Rattle.policy_types.specs.Forms.{has_small_form}
use Rattle.policy_types.specs.Products.{IsKnown, IsProduct}
use Rattle.policy_types.proofs.scope.Scope.term.Given as goal

abbrev pub invariant-loop-times : goal.invariant-loop-times
invariant-loop-times l = record {
  tree : times_meaning l.self (expr_tree l.left) (drop l.times-index l.rest) ≡ term_meaning l.self l.term;
  faults : times_faults l.self l.fn.site (expr_tree l.left) (drop l.times-index l.rest) ≡ term_faults l.self l.fn.site l.term;
  is : IsProduct l.product (expr_tree l.left);
  known : IsKnown l.product.variable;
  small : has_small_form (expr_tree l.left) ≡ true;
}

-- What is read breaks no rule, and has the linear form so far.
use Rattle.std.proofs.Common.{◌≡◌, drop}
use Rattle.policy_tree.specs.Trees.{expr_tree}
use Rattle.policy_types.specs.Expressions.{added_faults, added_meaning, expr_faults, expr_meaning}
use Rattle.policy_types.specs.Products.{IsForm}
use Rattle.policy_types.proofs.scope.Scope.expr.Given as goal

abbrev pub invariant-loop-added : goal.invariant-loop-added
invariant-loop-added l = record {
  tree : added_meaning l.self (expr_tree l.left) (drop l.added-index l.rest) ≡ expr_meaning l.self l.expr;
  faults : added_faults l.self l.fn.site (expr_tree l.left) (drop l.added-index l.rest) ≡ expr_faults l.self l.fn.site l.expr;
  is : IsForm l.form (expr_tree l.left);
}

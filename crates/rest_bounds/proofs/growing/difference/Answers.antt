use Rattle.policy_tree.specs.Trees.{expr_tree}
use Rattle.rest_bounds.proofs.Taken.{value_taken}
use Rattle.rest_bounds.proofs.growing.difference.Goals as goal

pub overflow_sub-result : goal.overflow_sub-result
overflow_sub-result c =
    (value_taken (expr_tree c.args.left.now) (expr_tree c.args.right.now) c.requires.left.linear c.requires.right.linear c.args.at.now.vals c.requires.values
    c.value.result c.value-2.result c.value.ensures c.value-2.ensures).fits

pub returns-clause-value : goal.returns-clause-value
returns-clause-value c =
    (value_taken (expr_tree c.args.left.now) (expr_tree c.args.right.now) c.requires.left.linear c.requires.right.linear c.args.at.now.vals c.requires.values
    c.value.result c.value-2.result c.value.ensures c.value-2.ensures).gives

pub returns-clause-small : goal.returns-clause-small
returns-clause-small c =
    (value_taken (expr_tree c.args.left.now) (expr_tree c.args.right.now) c.requires.left.linear c.requires.right.linear c.args.at.now.vals c.requires.values
    c.value.result c.value-2.result c.value.ensures c.value-2.ensures).small

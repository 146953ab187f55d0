-- The parts of a joined condition, as the vector has them.
use Rattle.std.proofs.Common.{◌≡◌, refl, ap, ◌∙◌, Vec, Global}
use mathlib.Core.Former.{Count}
use Rattle.policy_syntax.specs.declared.syntax.ConditionSyntax.{ConditionSyntax, And, And', Or, Or', Row_of-ConditionSyntax, end_of-ConditionSyntax, more_of-ConditionSyntax, items-the_row-ConditionSyntax, items_hidden-the_row-ConditionSyntax-0}
use Rattle.policy_syntax.specs.SyntaxTrees.{all, any, more, condition_tree, row_trees, condition_trees}

row_items : (n : _) (row : Row_of-ConditionSyntax n) → row_trees row ≡ condition_trees (items-the_row-ConditionSyntax n row)
row_items n end_of-ConditionSyntax = refl
row_items n (more_of-ConditionSyntax part rest) = ap (more (condition_tree part)) (row_items _ rest)

abbrev parts_row : ConditionSyntax → (n : Count) × Row_of-ConditionSyntax n
parts_row (And' at shape parts) = (_, parts)
parts_row (Or' at shape parts) = (_, parts)
parts_row _ = (_, end_of-ConditionSyntax)

pub and_tree : (at : _) (parts : Vec ConditionSyntax Global) → condition_tree (And at parts) ≡ all at (condition_trees parts.items)
and_tree at parts =
    let row = parts_row (And at parts) in
    ap (all at) (row_items row.0 row.1 ∙ ap condition_trees (items_hidden-the_row-ConditionSyntax-0 parts))

pub or_tree : (at : _) (parts : Vec ConditionSyntax Global) → condition_tree (Or at parts) ≡ any at (condition_trees parts.items)
or_tree at parts =
    let row = parts_row (Or at parts) in
    ap (any at) (row_items row.0 row.1 ∙ ap condition_trees (items_hidden-the_row-ConditionSyntax-0 parts))

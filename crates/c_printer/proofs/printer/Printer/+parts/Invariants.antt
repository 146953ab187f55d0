-- An operand is smaller than what it is an operand of.
use Rattle.std.proofs.Common.{◌+◌, ◌*◌}
use Rattle.policy_tree.specs.Trees.{expr_tree}
use Rattle.c_printer.proofs.Sizes.{size_of}
use Rattle.c_printer.proofs.printer.Printer.+parts.Given as goal

abbrev pub decreases-expression : goal.decreases-expression
decreases-expression l = 3 * size_of (expr_tree l.expr.now)

abbrev pub decreases-sum : goal.decreases-sum
decreases-sum l = 3 * (size_of (expr_tree l.left.now) + size_of (expr_tree l.right.now)) + 2

abbrev pub decreases-operand : goal.decreases-operand
decreases-operand l = 3 * size_of (expr_tree l.expr.now) + 1

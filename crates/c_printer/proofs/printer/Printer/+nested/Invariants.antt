-- A part is smaller than what it is a part of.
use Rattle.std.proofs.Common.{◌+◌, ◌*◌}
use Rattle.policy_tree.specs.Trees.{cond_tree}
use Rattle.c_printer.proofs.Sizes.{nodes_of}
use Rattle.c_printer.proofs.printer.Printer.+nested.Given as goal

abbrev pub decreases-condition : goal.decreases-condition
decreases-condition l = 2 * nodes_of (cond_tree l.cond.now)

abbrev pub decreases-part : goal.decreases-part
decreases-part l = 2 * nodes_of (cond_tree l.cond.now) + 1

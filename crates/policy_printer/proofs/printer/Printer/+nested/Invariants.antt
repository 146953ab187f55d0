-- The parts so far; each part has fewer nodes than the chain.
use Rattle.std.proofs.Common.{◌+◌, ◌*◌, take}
use Rattle.std.specs.List.{flat_map}
use Rattle.policy_syntax.specs.SyntaxTrees.{condition_tree, condition_trees}
use Rattle.policy_printer.specs.Adds.{Adds}
use Rattle.policy_printer.proofs.Nodes.{nodes, nodes_of, part_texts}
use Rattle.policy_printer.proofs.printer.Printer.+nested.Given as goal

abbrev pub decreases-condition : goal.decreases-condition
decreases-condition l = 2 * nodes (condition_tree l.condition.now)

abbrev pub decreases-parts : goal.decreases-parts
decreases-parts l = 2 * nodes_of (condition_trees l.parts.now) + 1

abbrev pub invariant-parts-loop-part : goal.invariant-parts-loop-part
invariant-parts-loop-part l = Adds (flat_map (part_texts l.word) (take l.part-index l.rest)) l.initial.self.bytes.items l.self.bytes.items

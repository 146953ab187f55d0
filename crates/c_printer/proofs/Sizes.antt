-- How many nodes an expression or a condition has.
use Rattle.std.proofs.Common.{ℕ, ◌+◌}
use Rattle.policy_tree.specs.Trees.{ExprTree, number, variable, negation, plus, minus, times, CondTree, always, negated}
use Rattle.policy_tree.specs.Trees.{both, either, test}

abbrev pub size_of : ExprTree → ℕ
size_of (number n) = 1
size_of (variable at) = 1
size_of (negation e) = size_of e + 1
size_of (plus l r) = size_of l + size_of r + 1
size_of (minus l r) = size_of l + size_of r + 1
size_of (times l r) = size_of l + size_of r + 1

abbrev pub nodes_of : CondTree → ℕ
nodes_of always = 1
nodes_of (negated c) = nodes_of c + 1
nodes_of (both l r) = nodes_of l + nodes_of r + 1
nodes_of (either l r) = nodes_of l + nodes_of r + 1
nodes_of (test how l r) = 1

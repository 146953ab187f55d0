-- The chains of `and` and `or` that a condition begins with on its left: what stands at the chain's left end, and what
-- each link adds on the right.
use Rattle.std.specs.Prelude.{ℕ, ◌+◌, ◌<◌, List, [], ◌∷◌, Bool, true, false}
use Rattle.policy_tree.specs.declared.trees.Cond.{Cond, Always, Not', And', Or', Test}
use Rattle.policy_tree.specs.declared.copies.Link.{Link}
use Rattle.policy_tree.specs.declared.copies.Link.TheVariants as link
use Rattle.policy_tree.specs.Trees.{CondTree, always, negated, both, either, test, cond_tree}

-- the condition is a link of a chain
abbrev pub is_link : Cond → Bool
is_link Always = false
is_link (Not' p c) = false
is_link (And' p l q r) = true
is_link (Or' p l q r) = true
is_link (Test cmp l r) = false

-- the chain so far, and one more link
abbrev pub linked : Link → CondTree → CondTree
linked (link.And right) left = both left (cond_tree right.now)
linked (link.Or right) left = either left (cond_tree right.now)

-- a chain with this left end, the outermost link first
abbrev pub chained : List Link → CondTree → CondTree
chained [] left = left
chained (l ∷ links) left = linked l (chained links left)

-- how many nodes a condition has, its expressions not counted
abbrev pub nodes_of : CondTree → ℕ
nodes_of always = 1
nodes_of (negated c) = nodes_of c + 1
nodes_of (both l r) = nodes_of l + nodes_of r + 1
nodes_of (either l r) = nodes_of l + nodes_of r + 1
nodes_of (test cmp l r) = 1

-- how many nodes the link adds
abbrev pub added_by : Link → ℕ
added_by (link.And right) = nodes_of (cond_tree right.now)
added_by (link.Or right) = nodes_of (cond_tree right.now)

-- the link adds fewer nodes than so many
abbrev pub IsBelow : ℕ → Link → Type 0
IsBelow nodes l = added_by l < nodes

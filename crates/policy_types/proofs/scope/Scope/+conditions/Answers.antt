-- The parts of a chain are those of its vector.
use Rattle.std.proofs.Common.{ap, ◌∙◌}
use Rattle.policy_syntax.specs.SyntaxTrees.{condition_tree}
use Rattle.policy_syntax.proofs.Rows.{and_tree, or_tree}
use Rattle.policy_types.proofs.scope.Scope.+conditions.Goals as goal

pub condition-returns-in-And-clause-tree : goal.condition-returns-in-And-clause-tree
condition-returns-in-And-clause-tree t c =
    let e = ap condition_tree c.in-And.is ∙ and_tree c.in-And.at c.in-And.parts in rw (e, ← c.as_slice.ensures.value) c.chain.ensures.tree

pub condition-returns-in-And-clause-sound : goal.condition-returns-in-And-clause-sound
condition-returns-in-And-clause-sound t c =
    let e = ap condition_tree c.in-And.is ∙ and_tree c.in-And.at c.in-And.parts in rw (e, ← c.as_slice.ensures.value) c.chain.ensures.sound

pub condition-returns-in-And-clause-fault : goal.condition-returns-in-And-clause-fault
condition-returns-in-And-clause-fault t c =
    let e = ap condition_tree c.in-And.is ∙ and_tree c.in-And.at c.in-And.parts in rw (e, ← c.as_slice.ensures.value) c.chain.ensures.fault

pub condition-returns-in-Or-clause-tree : goal.condition-returns-in-Or-clause-tree
condition-returns-in-Or-clause-tree t c =
    let e = ap condition_tree c.in-Or.is ∙ or_tree c.in-Or.at c.in-Or.parts in rw (e, ← c.as_slice-in-Or.ensures.value) c.chain-in-Or.ensures.tree

pub condition-returns-in-Or-clause-sound : goal.condition-returns-in-Or-clause-sound
condition-returns-in-Or-clause-sound t c =
    let e = ap condition_tree c.in-Or.is ∙ or_tree c.in-Or.at c.in-Or.parts in rw (e, ← c.as_slice-in-Or.ensures.value) c.chain-in-Or.ensures.sound

pub condition-returns-in-Or-clause-fault : goal.condition-returns-in-Or-clause-fault
condition-returns-in-Or-clause-fault t c =
    let e = ap condition_tree c.in-Or.is ∙ or_tree c.in-Or.at c.in-Or.parts in rw (e, ← c.as_slice-in-Or.ensures.value) c.chain-in-Or.ensures.fault

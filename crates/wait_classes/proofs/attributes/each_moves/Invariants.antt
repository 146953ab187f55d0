use Rattle.std.proofs.Common.{◌≡◌, drop, map}
use Rattle.std.specs.List.{list_all}
use Rattle.policy_tree.specs.Meaning.{set_tree}
use Rattle.wait_classes.specs.Attributes.{moves_or_leaves}
use Rattle.wait_classes.proofs.attributes.each_moves.Given as goal

-- the assignments that are left decide as all do
abbrev pub invariant-loop-at : goal.invariant-loop-at
invariant-loop-at l =
    list_all (moves_or_leaves l.attribute l.aim) (map set_tree (drop l.at l.sets)) ≡ list_all (moves_or_leaves l.attribute l.aim) (map set_tree l.sets)

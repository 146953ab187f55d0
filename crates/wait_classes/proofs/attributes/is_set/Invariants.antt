use Rattle.std.proofs.Common.{◌≡◌, drop, map}
use Rattle.std.specs.List.{list_any}
use Rattle.policy_tree.specs.Meaning.{set_tree}
use Rattle.wait_classes.specs.Attributes.{sets_it}
use Rattle.wait_classes.proofs.attributes.is_set.Given as goal

-- the assignments that are left decide as all do
abbrev pub invariant-loop-at : goal.invariant-loop-at
invariant-loop-at l = list_any (sets_it l.attribute) (map set_tree (drop l.at l.sets)) ≡ list_any (sets_it l.attribute) (map set_tree l.sets)

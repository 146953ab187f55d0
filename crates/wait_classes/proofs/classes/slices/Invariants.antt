use Rattle.std.proofs.Common.{◌≡◌, drop}
use Rattle.policy_tree.specs.Meaning.{meaning_of}
use Rattle.wait_classes.specs.Classes.{slices_from}
use Rattle.wait_classes.proofs.classes.slices.Given as goal

-- the attributes that are left decide as all do
abbrev pub invariant-loop-attribute : goal.invariant-loop-attribute
invariant-loop-attribute l = slices_from (meaning_of l.policy) l.attribute (drop l.attribute l.policy.thread_attrs) ≡ slices_from (meaning_of l.policy) 0 l.policy.thread_attrs

-- No text is lost.
use Rattle.std.specs.Prelude.{ℕ, ◌⊎◌, List}
use Rattle.policy_tree.specs.Meaning.{Meaning}
use Rattle.policy_reader.specs.declared.fault.TextFault.{TextFault}
use Rattle.policy_reader.specs.Faults.{HasFault}
use Rattle.policy_reader.specs.Spelled.{SpellsPolicy}

-- the text spells a policy, or it has a fault
abbrev pub HasAnswer : List ℕ → Type 0
HasAnswer text = ((p : Meaning) × SpellsPolicy text p) ⊎ ((fault : TextFault) × HasFault text fault)

-- A text has one answer.
use Rattle.std.specs.Prelude.{ℕ, ◌≡◌, List}
use Rattle.policy_tree.specs.Meaning.{Meaning}
use Rattle.policy_reader.specs.declared.fault.TextFault.{TextFault}
use Rattle.policy_reader.specs.Faults.{HasFault}
use Rattle.policy_reader.specs.Spelled.{SpellsPolicy}

-- no text spells two policies, none has two faults, and none that spells a policy has a fault
pub record HasOneAnswer : Type 0 where
  pub one_policy : (text : List ℕ) (p other : Meaning) →
      SpellsPolicy text p → SpellsPolicy text other → p ≡ other
  pub one_fault : (text : List ℕ) (fault other : TextFault) →
      HasFault text fault → HasFault text other → fault ≡ other
  pub never_both : (text : List ℕ) (p : Meaning) (fault : TextFault) →
      SpellsPolicy text p → HasFault text fault → ⊥

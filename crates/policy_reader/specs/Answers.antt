-- What is answered of a text. Want of memory is an answer to every text.
use Rattle.std.specs.Prelude.{ℕ, ◌≡◌, List, Result, Ok, Err}
use Rattle.policy_tree.specs.declared.typed.Policy.{Policy}
use Rattle.policy_tree.specs.Meaning.{Meaning, meaning_of}
use Rattle.policy_reader.specs.declared.fault.TextFault.{TextFault}
use Rattle.policy_reader.specs.declared.fault.PolicyFault.{PolicyFault}
use Rattle.policy_reader.specs.declared.fault.PolicyFault.TheVariants.{Broken, Memory}
use Rattle.policy_reader.specs.Faults.{HasFault}

-- the text has that fault, or memory ran out
abbrev pub IsFaultUnlessMemory : List ℕ → PolicyFault → Type 0
IsFaultUnlessMemory text (Broken fault) = HasFault text fault
IsFaultUnlessMemory text Memory = Unit {0}

-- that policy is answered, or memory ran out
abbrev pub IsReadUnlessMemory : Meaning → Result Policy PolicyFault → Type 0
IsReadUnlessMemory p (Ok policy) = meaning_of policy ≡ p
IsReadUnlessMemory p (Err (Broken fault)) = ⊥
IsReadUnlessMemory p (Err Memory) = Unit {0}

-- that fault is answered, or memory ran out
abbrev pub IsRefusedUnlessMemory : TextFault → Result Policy PolicyFault → Type 0
IsRefusedUnlessMemory fault (Ok policy) = ⊥
IsRefusedUnlessMemory fault (Err (Broken other)) = other ≡ fault
IsRefusedUnlessMemory fault (Err Memory) = Unit {0}

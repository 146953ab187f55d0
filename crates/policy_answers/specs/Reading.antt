-- What a text is read as.
use Rattle.std.specs.Prelude.{ℕ, List}
use Rattle.policy_tree.specs.Meaning.{meaning_of}
use Rattle.policy_eval.specs.Resolved.{IsResolved}
use Rattle.policy_reader.specs.Faults.{HasFault}
use Rattle.policy_reader.specs.Spelled.{SpellsPolicy}
use Rattle.policy_answers.specs.declared.reading.Reading.{Reading}
use Rattle.policy_answers.specs.declared.reading.Reading.TheVariants as reading

-- the text spells the policy, which is resolved, or has the fault
abbrev pub IsReading : List ℕ → Reading → Type 0
IsReading text (reading.Policy policy) = SpellsPolicy text (meaning_of policy) × IsResolved (meaning_of policy)
IsReading text (reading.Faulty fault) = HasFault text fault

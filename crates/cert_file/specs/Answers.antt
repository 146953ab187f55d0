-- What `verify` answers, and what it must answer.
use Rattle.std.specs.Prelude.{◌≡◌, ℕ, List, Some, None, Result, Ok, Err}
use Rattle.policy_tree.specs.Meaning.{Meaning}
use Rattle.obligations.specs.declared.names.ObName.{ObName}
use Rattle.obligations.specs.Counts.{first_crowded}
use Rattle.obligations.specs.Names.{ob_names}
use Rattle.cert_file.specs.BadLines.{IsFirstBadLine}
use Rattle.cert_file.specs.Wrong.{IsWrongAt, Proves, count_systems}
use Rattle.cert_file.specs.declared.answer.Verified.{Verified}
use Rattle.cert_file.specs.declared.answer.VerifyFault.{VerifyFault}
use Rattle.cert_file.specs.declared.answer.VerifyFault.TheVariants as fault

-- no obligation has too many cases
abbrev pub IsUncrowded : Meaning → Type 0
IsUncrowded p = first_crowded p ob_names ≡ None

-- The file proves the policy, of which no obligation has too many cases, and the policy has so many systems.
pub record IsVerified (p : Meaning) (text : List ℕ) (verified : Verified) : Type 0 where
  pub uncrowded : IsUncrowded p
  pub proves : Proves p text
  pub systems : verified.systems ≡ count_systems p ob_names

-- What is written of a policy that is accepted: the file proves it, and no obligation of it has too many cases.
pub record IsWritten (p : Meaning) (text : List ℕ) : Type 0 where
  pub uncrowded : IsUncrowded p
  pub proves : Proves p text

-- The cause of a refusal. An obligation with too many cases comes before a bad line, and that before what is wrong.
abbrev pub IsCauseOf : Meaning → List ℕ → VerifyFault → Type 0
IsCauseOf p text (fault.Cases name count) = first_crowded p ob_names ≡ Some (name, count)
IsCauseOf p text (fault.BadLine line) = IsUncrowded p × IsFirstBadLine text line
IsCauseOf p text (fault.Wrong name system) = IsUncrowded p × IsWrongAt p text name system
IsCauseOf p text fault.Memory = Unit {0}

-- the answer, or the want of memory
abbrev pub IsUnlessMemory : Result Verified VerifyFault → Result Verified VerifyFault → Type 0
IsUnlessMemory answer (Ok verified) = Ok verified ≡ answer
IsUnlessMemory answer (Err (fault.Cases name count)) = Err (fault.Cases name count) ≡ answer
IsUnlessMemory answer (Err (fault.BadLine line)) = Err (fault.BadLine line) ≡ answer
IsUnlessMemory answer (Err (fault.Wrong name system)) = Err (fault.Wrong name system) ≡ answer
IsUnlessMemory answer (Err fault.Memory) = Unit {0}

-- Each answer is given where it is the one, unless memory runs out.
pub record MustAnswer (p : Meaning) (text : List ℕ) (result : Result Verified VerifyFault) : Type 0 where
  pub accepts : (verified : Verified) → IsVerified p text verified → IsUnlessMemory (Ok verified) result
  pub crowded : (name : ObName) (count : ℕ) → first_crowded p ob_names ≡ Some (name, count) →
      IsUnlessMemory (Err (fault.Cases name count)) result
  pub bad_line : (line : ℕ) → IsUncrowded p → IsFirstBadLine text line →
      IsUnlessMemory (Err (fault.BadLine line)) result
  pub wrong : (name : ObName) (system : ℕ) → IsUncrowded p → IsWrongAt p text name system →
      IsUnlessMemory (Err (fault.Wrong name system)) result

-- The line that is printed of a fault.
use Rattle.std.specs.Prelude.{ℕ, List, ◌++◌, codes, decimal}
use Rattle.policy_reader.specs.declared.fault.FaultKind.{FaultKind}
use Rattle.policy_reader.specs.declared.fault.FaultKind.TheVariants.{NotAscii, BadByte, LongName, WideNumber}
use Rattle.policy_reader.specs.declared.fault.FaultKind.TheVariants.{Unexpected, Deep, Many, Unknown, Twice, NotLinear}
use Rattle.policy_reader.specs.declared.fault.FaultKind.TheVariants.{NotHere, BadRange, Big}
use Rattle.policy_reader.specs.declared.fault.TextFault.{TextFault}

-- the word of a fault
abbrev pub word_of : FaultKind → List ℕ
word_of NotAscii = codes "not-ascii"
word_of BadByte = codes "bad-byte"
word_of LongName = codes "long-name"
word_of WideNumber = codes "wide-number"
word_of Unexpected = codes "unexpected"
word_of Deep = codes "deep"
word_of Many = codes "many"
word_of Unknown = codes "unknown"
word_of Twice = codes "twice"
word_of NotLinear = codes "not-linear"
word_of NotHere = codes "not-here"
word_of BadRange = codes "bad-range"
word_of Big = codes "big"

-- `policy`, the offset and the word, with one space between them, and a line feed
abbrev pub fault_line : TextFault → List ℕ
fault_line fault = codes "policy " ++ (decimal fault.at ++ (codes " " ++ (word_of fault.kind ++ codes "\n")))

-- Which answers a reader must give, want of memory aside.
use Rattle.std.specs.Prelude.{◌≡◌, ℕ, List, Result, Ok, Err}
use Rattle.linear_cert.specs.declared.cert.Cert.{Cert}
use Rattle.linear_cert.specs.Right.{CertTree, cert_tree}
use Rattle.cert_lines.specs.declared.fault.CertFault.{CertFault}
use Rattle.cert_lines.specs.declared.fault.CertFault.TheVariants.{BadText, Memory}
use Rattle.cert_lines.specs.Faults.{IsFirstBadLine}
use Rattle.cert_lines.specs.Text.{SpellsCertificate}

-- a refusal names the first bad line, but for want of memory
abbrev pub IsFaultOf : List ℕ → CertFault → Type 0
IsFaultOf text (BadText line) = IsFirstBadLine text line
IsFaultOf text Memory = Unit {0}

abbrev pub IsMemory : CertFault → Type 0
IsMemory (BadText line) = ⊥
IsMemory Memory = Unit {0}

-- the answer is this certificate
abbrev pub GivesUnlessMemory : CertTree → Result Cert CertFault → Type 0
GivesUnlessMemory tree (Ok cert) = cert_tree cert ≡ tree
GivesUnlessMemory tree (Err fault) = IsMemory fault

abbrev pub NamesUnlessMemory : ℕ → CertFault → Type 0
NamesUnlessMemory line (BadText other) = other ≡ line
NamesUnlessMemory line Memory = Unit {0}

-- the answer is that this line is bad
abbrev pub RefusesUnlessMemory : ℕ → Result Cert CertFault → Type 0
RefusesUnlessMemory line (Ok cert) = ⊥
RefusesUnlessMemory line (Err fault) = NamesUnlessMemory line fault

-- a text that spells a certificate gives that one
abbrev pub MustGive : List ℕ → Result Cert CertFault → Type 0
MustGive text result = (tree : CertTree) → SpellsCertificate text tree → GivesUnlessMemory tree result

-- a text with a bad line is refused for the first one
abbrev pub MustRefuse : List ℕ → Result Cert CertFault → Type 0
MustRefuse text result = (line : ℕ) → IsFirstBadLine text line → RefusesUnlessMemory line result

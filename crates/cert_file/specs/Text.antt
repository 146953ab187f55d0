-- The text of a certificate file: its heading, and each obligation with a certificate for each of its systems.
use Rattle.std.specs.Prelude.{◌≡◌, ℕ, ◌<◌, ◌^◌, List, [], ◌∷◌, ◌++◌, codes, decimal, length}
use Rattle.std.specs.List.{AllByRecursion}
use Rattle.linear_cert.specs.Right.{CertTree, IsShallow}
use Rattle.cert_lines.specs.Reading.{nodes_of}
use Rattle.cert_lines.specs.Text.{AreInRange, cert_text}
use Rattle.obligations.specs.declared.names.ObName.{ObName}
use Rattle.obligations.specs.Names.{ob_names, ob_text}

-- the first line, which names the form
abbrev pub heading : List ℕ
heading = codes "certificates 1"

-- the line of an obligation, which says how many systems follow
abbrev pub obligation_line : ObName → ℕ → List ℕ
obligation_line name systems = codes "obligation " ++ (ob_text name ++ 32 ∷ decimal systems)

-- the line of a system, which says how many lines its certificate has
abbrev pub system_line : ℕ → List ℕ
system_line lines = codes "system " ++ decimal lines

-- a system: its line, and its certificate with a line for each node
abbrev pub system_text : CertTree → List ℕ
system_text tree = system_line (nodes_of tree) ++ 10 ∷ cert_text tree

abbrev pub systems_text : List CertTree → List ℕ
systems_text [] = []
systems_text (tree ∷ trees) = system_text tree ++ systems_text trees

-- an obligation: its line, and its systems
abbrev pub obligation_text : ObName → List CertTree → List ℕ
obligation_text name trees = obligation_line name (length trees) ++ 10 ∷ systems_text trees

-- these obligations, one after the other, each with its own certificates
abbrev pub obligations_text : List ObName → List (List CertTree) → List ℕ
obligations_text [] lists = []
obligations_text (name ∷ names) [] = []
obligations_text (name ∷ names) (trees ∷ lists) = obligation_text name trees ++ obligations_text names lists

-- the whole file
abbrev pub file_text : List (List CertTree) → List ℕ
file_text lists = heading ++ 10 ∷ obligations_text ob_names lists

-- a certificate that a file may have: its text is one, and the number of its lines one of 64 bits
pub record IsWritable (tree : CertTree) : Type 0 where
  pub shallow : IsShallow tree
  pub in_range : AreInRange tree
  pub lines : nodes_of tree < 2 ^ 64

-- certificates that an obligation may have: their number is one of 32 bits
pub record AreWritable (trees : List CertTree) : Type 0 where
  pub few : length trees < 2 ^ 32
  pub each : AllByRecursion IsWritable trees

-- The text is that of the certificates: a list of them for each obligation, in the order of `ob_names`.
pub record SpellsCertificateFile (text : List ℕ) (lists : List (List CertTree)) : Type 0 where
  pub text_is : text ≡ file_text lists
  pub one_for_each : length lists ≡ length ob_names
  pub writable : AllByRecursion AreWritable lists

-- What is read of a file, part by part. It serves the code alone.
use Rattle.std.specs.Prelude.{◌≡◌, ◌≢◌, ℕ, zero, suc, ◌+◌, List, [], ◌∷◌, ◌++◌, Option, Some, None}
use Rattle.std.specs.Prelude.{Result, Ok, Err, cond, length}
use Rattle.std.specs.List.{AllByRecursion, AllZip}
use Rattle.linear_form.specs.System.{LinearSystem}
use Rattle.linear_cert.specs.Right.{CertTree, IsRight}
use Rattle.policy_tree.specs.Meaning.{Meaning}
use Rattle.obligations.specs.declared.names.ObName.{ObName}
use Rattle.obligations.specs.declared.obligation.Obligation.{Obligation}
use Rattle.obligations.specs.Names.{ob_names}
use Rattle.policy_checker.specs.Certified.{Certifies}
use Rattle.policy_checker.specs.Refuted.{Refutes}
use Rattle.text_forms.specs.Cuts.{Lacks, is_byte}
use Rattle.cert_lines.specs.Reading.{nodes_of}
use Rattle.cert_lines.specs.Text.{cert_text}
use Rattle.cert_lines.specs.declared.fault.CertFault.{CertFault}
use Rattle.cert_lines.specs.declared.fault.CertFault.TheVariants as text_fault
use Rattle.cert_file.specs.BadLines.{Coming, IsBadFrom}
use Rattle.cert_file.specs.Text.{AreWritable, IsWritable, file_text, obligation_text, obligations_text}
use Rattle.cert_file.specs.Text.{system_text, systems_text}
use Rattle.cert_file.specs.Wrong.{IsFirstWrong, IsFirstWrongOf}
use Rattle.cert_file.specs.declared.answer.Verified.{Verified}
use Rattle.cert_file.specs.declared.answer.VerifyFault.{VerifyFault}
use Rattle.cert_file.specs.declared.answer.VerifyFault.TheVariants.{Wrong}
use Rattle.cert_file.specs.declared.systems.Tally.{Tally}

-- the refusal names the bad line, where that is still to come
abbrev pub FailsFrom : Coming → ℕ → List ℕ → CertFault → Type 0
FailsFrom coming number text (text_fault.BadText at) = IsBadFrom coming number text at
FailsFrom coming number text text_fault.Memory = Unit {0}

-- no line feed is left
abbrev pub HasNoLine : List ℕ → Type 0
HasNoLine text = Lacks 10 text

-- the line begins the text, and behind it the next number and the rest remain
pub record IsNextLine (line : List ℕ) (number : ℕ) (text : List ℕ) (next : ℕ) (behind : List ℕ) : Type 0 where
  pub text_is : text ≡ line ++ 10 ∷ behind
  pub plain : Lacks 10 line
  pub next_is : next ≡ number + 1

-- how many line feeds the text has
abbrev pub feeds : List ℕ → ℕ
feeds [] = 0
feeds (byte ∷ text) = cond (is_byte 10 byte) (1 + feeds text) (feeds text)

-- the text is so many lines, each with its line feed
pub data AreLines : List ℕ → ℕ → Type 0 where
  no_line : AreLines [] 0
  one_more : (line rest : List ℕ) (lines : ℕ) → Lacks 10 line → AreLines rest lines →
      AreLines (line ++ 10 ∷ rest) (suc lines)

-- The text is cut behind so many lines, or behind its end where some of them are missing.
pub record IsFront (text : List ℕ) (lines : ℕ) (front behind : List ℕ) (missing : ℕ) : Type 0 where
  pub whole : text ≡ front ++ behind
  pub count : feeds front + missing ≡ lines
  pub are_lines : missing ≡ 0 → AreLines front lines
  pub is_all : missing ≢ 0 → behind ≡ []

-- a certificate of so many lines is read from the front of the text
pub record IsNextCertificate (lines : ℕ) (tree : CertTree) (number : ℕ) (text : List ℕ) (next : ℕ) (behind : List ℕ) :
    Type 0 where
  pub text_is : text ≡ cert_text tree ++ behind
  pub lines_are : lines ≡ nodes_of tree
  pub writable : IsWritable tree
  pub next_is : next ≡ number + nodes_of tree

-- a system is read from the front of the text
pub record IsNextSystem (tree : CertTree) (number : ℕ) (text : List ℕ) (next : ℕ) (behind : List ℕ) : Type 0 where
  pub text_is : text ≡ system_text tree ++ behind
  pub writable : IsWritable tree
  pub next_is : next ≡ number + (1 + nodes_of tree)

-- a system has that place, and the certificate is right for it
abbrev pub HasRightAt : List LinearSystem → ℕ → CertTree → Type 0
HasRightAt [] place tree = ⊥
HasRightAt (system ∷ systems) zero tree = IsRight system.bounds system.rows tree
HasRightAt (system ∷ systems) (suc place) tree = HasRightAt systems place tree

-- each of these certificates is right for its own system
abbrev pub AreRight : List LinearSystem → List CertTree → Type 0
AreRight systems [] = Unit {0}
AreRight [] (tree ∷ trees) = ⊥
AreRight (system ∷ systems) (tree ∷ trees) = Refutes system tree × AreRight systems trees

-- What is known of the first certificates: each is right for its own system, or there is the first wrong place,
-- whatever certificates follow.
abbrev pub IsFoundSoFar : List LinearSystem → List CertTree → Option ℕ → Type 0
IsFoundSoFar systems trees None = AreRight systems trees
IsFoundSoFar systems trees (Some place) = (more : List CertTree) → IsFirstWrong systems (trees ++ more) place

-- what is known of all certificates
abbrev pub IsFoundIn : List LinearSystem → List CertTree → Option ℕ → Type 0
IsFoundIn systems trees None = AllZip Refutes systems trees
IsFoundIn systems trees (Some place) = IsFirstWrong systems trees place

-- how many lines systems with these certificates have
abbrev pub lines_of : List CertTree → ℕ
lines_of [] = 0
lines_of (tree ∷ trees) = 1 + nodes_of tree + lines_of trees

-- so many systems are read from the front of the text, and of their certificates that is known
pub record AreNextSystems (found : List CertTree → Type 0) (count number : ℕ) (text : List ℕ) (next : ℕ)
    (behind : List ℕ) : Type 0 where
  pub trees : List CertTree
  pub text_is : text ≡ systems_text trees ++ behind
  pub count_is : length trees ≡ count
  pub writable : AllByRecursion IsWritable trees
  pub next_is : next ≡ number + lines_of trees
  pub known : found trees

-- an obligation is read from the front of the text
pub record IsNextObligation (obligation : Obligation) (count : ℕ) (wrong : Option ℕ) (number : ℕ) (text : List ℕ)
    (next : ℕ) (behind : List ℕ) : Type 0 where
  pub trees : List CertTree
  pub text_is : text ≡ obligation_text obligation.name trees ++ behind
  pub count_is : length trees ≡ count
  pub writable : AreWritable trees
  pub next_is : next ≡ number + (1 + lines_of trees)
  pub known : IsFoundIn obligation.systems trees wrong

-- the first wrong place of an obligation and of those behind it
abbrev pub first_of : ObName → Option ℕ → Option (ObName × ℕ) → Option (ObName × ℕ)
first_of name None later = later
first_of name (Some place) later = Some (name, place)

-- what is known of obligations with their certificates
abbrev pub IsFoundOf : Meaning → List ObName → List (List CertTree) → Option (ObName × ℕ) → Type 0
IsFoundOf p names lists None = AllZip (Certifies p) names lists
IsFoundOf p names lists (Some found) = IsFirstWrongOf p names lists found.0 found.1

-- how many certificates the lists have
abbrev pub count_trees : List (List CertTree) → ℕ
count_trees [] = 0
count_trees (trees ∷ lists) = length trees + count_trees lists

-- these obligations are read, and nothing stands behind them
pub record IsTallyOf (p : Meaning) (names : List ObName) (text : List ℕ) (tally : Tally) : Type 0 where
  pub lists : List (List CertTree)
  pub text_is : text ≡ obligations_text names lists
  pub one_for_each : length lists ≡ length names
  pub writable : AllByRecursion AreWritable lists
  pub systems : tally.systems ≡ count_trees lists
  pub found : IsFoundOf p names lists tally.wrong

-- the whole file is read
pub record IsTallyOfFile (p : Meaning) (text : List ℕ) (tally : Tally) : Type 0 where
  pub lists : List (List CertTree)
  pub text_is : text ≡ file_text lists
  pub one_for_each : length lists ≡ length ob_names
  pub writable : AllByRecursion AreWritable lists
  pub systems : tally.systems ≡ count_trees lists
  pub found : IsFoundOf p ob_names lists tally.wrong

-- what comes of so many certificates, with the first wrong place among them
abbrev pub verdict_by : ℕ → Option (ObName × ℕ) → Result Verified VerifyFault
verdict_by systems None = Ok (record { systems = systems })
verdict_by systems (Some found) = Err (Wrong found.0 found.1)

-- what comes of a tally of the whole file
abbrev pub verdict_of : Tally → Result Verified VerifyFault
verdict_of tally = verdict_by tally.systems tally.wrong

-- these obligations are put behind a text, with certificates that are right
pub record AreWritten (p : Meaning) (names : List ObName) (before after : List ℕ) : Type 0 where
  pub lists : List (List CertTree)
  pub text_is : after ≡ before ++ obligations_text names lists
  pub one_for_each : length lists ≡ length names
  pub writable : AllByRecursion AreWritable lists
  pub right : AllZip (Certifies p) names lists

-- Certified policies: a right certificate for each system of each obligation.
use Rattle.std.specs.Prelude.{◌≡◌, List, map}
use Rattle.std.specs.List.{AllByRecursion, AllZip}
use Rattle.linear_form.specs.System.{LinearSystem}
use Rattle.linear_cert.specs.declared.cert.Cert.{Cert}
use Rattle.linear_cert.specs.Right.{CertTree, cert_tree}
use Rattle.policy_tree.specs.Meaning.{Meaning}
use Rattle.obligations.specs.declared.names.ObName.{ObName}
use Rattle.obligations.specs.Names.{ob_names, statement_of}
use Rattle.obligations.specs.Systems.{systems_of}
use Rattle.policy_checker.specs.Refuted.{Refutes}
use Rattle.policy_checker.specs.declared.answer.Answered.{Answered}
use Rattle.policy_checker.specs.declared.answer.ObAnswer.{ObAnswer}
use Rattle.policy_checker.specs.declared.answer.ObAnswer.TheVariants as answer

-- the certificates refute the systems of the obligation with this name, each its own
abbrev pub Certifies : Meaning → ObName → List CertTree → Type 0
Certifies p name trees = AllZip Refutes (systems_of p (statement_of name)) trees

-- each system of each obligation has a certificate that is right
abbrev pub IsCertified : Meaning → Type 0
IsCertified p = (certs : List (List CertTree)) × AllZip (Certifies p) ob_names certs

-- the answer keeps a certificate for each of these systems
abbrev pub Keeps : List LinearSystem → ObAnswer → Type 0
Keeps systems (answer.Holds certs) =
    AllZip (λ (system : LinearSystem) (cert : Cert). Refutes system (cert_tree cert)) systems certs
Keeps systems (answer.Fails point) = ⊥
Keeps systems (answer.Undecided points) = ⊥

-- the answer keeps the certificates of its obligation
abbrev pub KeepsCertificates : Meaning → Answered → Type 0
KeepsCertificates p answered = Keeps (systems_of p (statement_of answered.name)) answered.answer

-- the answers keep a certificate for each system of each obligation
pub record KeepAll (p : Meaning) (answers : List Answered) : Type 0 where
  pub names : map (λ (answered : Answered). answered.name) answers ≡ ob_names
  pub each : AllByRecursion (KeepsCertificates p) answers

-- Whether the certificates of a file are those that a policy needs, and the first place where they aren't.
use Rattle.std.specs.Prelude.{◌≡◌, ◌⊎◌, ℕ, zero, suc, ◌+◌, List, [], ◌∷◌, length}
use Rattle.std.specs.List.{AllZip}
use Rattle.linear_form.specs.System.{LinearSystem}
use Rattle.linear_cert.specs.Right.{CertTree}
use Rattle.policy_tree.specs.Meaning.{Meaning}
use Rattle.obligations.specs.declared.names.ObName.{ObName}
use Rattle.obligations.specs.Names.{ob_names, statement_of}
use Rattle.obligations.specs.Systems.{systems_of}
use Rattle.policy_checker.specs.Certified.{Certifies}
use Rattle.policy_checker.specs.Refuted.{Refutes}
use Rattle.cert_file.specs.Text.{SpellsCertificateFile}

-- The text is a file with a certificate for each system of the policy, and each is right for its system.
pub record Proves (p : Meaning) (text : List ℕ) : Type 0 where
  pub lists : List (List CertTree)
  pub spelled : SpellsCertificateFile text lists
  pub right : AllZip (Certifies p) ob_names lists

-- how many systems these obligations of the policy have
abbrev pub count_systems : Meaning → List ObName → ℕ
count_systems p [] = 0
count_systems p (name ∷ names) = length (systems_of p (statement_of name)) + count_systems p names

-- Of systems and certificates the first place that is wrong: those before it are right, each for its own system, and
-- there a certificate is missing, one is left over, or the one that stands there isn't right.
abbrev pub IsFirstWrong : List LinearSystem → List CertTree → ℕ → Type 0
IsFirstWrong [] [] place = ⊥
IsFirstWrong [] (tree ∷ trees) place = place ≡ 0
IsFirstWrong (system ∷ systems) [] place = place ≡ 0
IsFirstWrong (system ∷ systems) (tree ∷ trees) zero = Refutes system tree → ⊥
IsFirstWrong (system ∷ systems) (tree ∷ trees) (suc place) = Refutes system tree × IsFirstWrong systems trees place

-- Of obligations with their certificates the first that is wrong, and the place: those before it have all that they
-- need.
abbrev pub IsFirstWrongOf : Meaning → List ObName → List (List CertTree) → ObName → ℕ → Type 0
IsFirstWrongOf p [] lists other place = ⊥
IsFirstWrongOf p (name ∷ names) [] other place = ⊥
IsFirstWrongOf p (name ∷ names) (trees ∷ lists) other place =
    ((other ≡ name) × IsFirstWrong (systems_of p (statement_of name)) trees place)
    ⊎ (Certifies p name trees × IsFirstWrongOf p names lists other place)

-- The text is a file, and that obligation the first for which its certificates are wrong, at that place.
pub record IsWrongAt (p : Meaning) (text : List ℕ) (name : ObName) (place : ℕ) : Type 0 where
  pub lists : List (List CertTree)
  pub spelled : SpellsCertificateFile text lists
  pub first : IsFirstWrongOf p ob_names lists name place

-- What `verify` says is true.
use Rattle.std.specs.Prelude.{◌≡◌, ◌⊎◌, ℕ, List, [], ◌∷◌, Option}
use Rattle.sched_io.specs.Told.{Told}
use Rattle.sched_io.specs.Written.{Adds}
use Rattle.policy_eval.specs.Obligations.{MeetsObligations}
use Rattle.policy_eval.specs.Ranges.{greatest_weight, least_weight}
use Rattle.policy_tree.specs.Meaning.{Meaning}
use Rattle.obligations.specs.declared.names.ObName.{ObName}
use Rattle.obligations.specs.Names.{ob_names}
use Rattle.cert_file.specs.Answers.{IsUncrowded}
use Rattle.cert_file.specs.BadLines.{IsFirstBadLine}
use Rattle.cert_file.specs.Wrong.{IsWrongAt, Proves, count_systems}
use Rattle.policy_answers.specs.declared.verifying.VerifyAnswer.TheVariants.{BadLine, Wrong}
use Rattle.policy_answers.specs.Verifying.{verified_line, verify_line}
use Rattle.round_laws.specs.MainTheorem.{WastesNoCore}
use Rattle.ipanema_cli.specs.Causes.{OneOf}
use Rattle.ipanema_cli.specs.CheckTruths.{Holds, MaySpell, PaysForWaste, Refuses, Spells, TellsFault}
use Rattle.ipanema_cli.specs.Texts.{MayRead}
use Rattle.ipanema_cli.specs.declared.texts.TextKind.TheVariants as kind

-- The files may hold a text that spells this policy, no obligation of which has too many cases, and these certificates.
pub record MayVerify (policy certs : Told) (p : Meaning) (file : List ℕ) : Type 0 where
  pub spelled : MaySpell policy p
  pub few : IsUncrowded p
  pub read : MayRead kind.Certificates certs file

-- What a policy has that is verified.
pub record VerifiedPolicy (policy certs : Told) (p : Meaning) : Type 0 where
  pub file : List ℕ
  pub may : MayVerify policy certs p file
  -- the file has a certificate for each system of each obligation, and each is right
  pub proves : Proves p file
  -- the policy meets each of its statements
  pub meets : MeetsObligations p
  -- and so, in every legal history of every plan that fits it, each thread stands in one place, each failed steal is
  -- explained, and still rounds conserve work
  pub wastes_no_core : WastesNoCore p
  -- and where all threads weigh the same, wasted rounds fill idle cores
  pub pays : least_weight p.load ≡ greatest_weight p.load → PaysForWaste p

-- The policy is verified, and the number of its systems is written.
pub record WritesVerified (policy certs : Told) (before after : Option (List ℕ)) : Type 0 where
  pub p : Meaning
  pub verified : VerifiedPolicy policy certs p
  pub written : Adds (verified_line (count_systems p ob_names)) before after

-- The first bad line of the certificates is written.
pub record BadCertificates (policy certs : Told) (before after : Option (List ℕ)) : Type 0 where
  pub p : Meaning
  pub file : List ℕ
  pub may : MayVerify policy certs p file
  pub line : ℕ
  pub bad : IsFirstBadLine file line
  pub written : Adds (verify_line (BadLine line)) before after

-- The first place is written where the certificates are wrong for the policy.
pub record WritesWrong (policy certs : Told) (before after : Option (List ℕ)) : Type 0 where
  pub p : Meaning
  pub file : List ℕ
  pub may : MayVerify policy certs p file
  pub name : ObName
  pub place : ℕ
  pub wrong : IsWrongAt p file name place
  pub written : Adds (verify_line (Wrong name place)) before after

-- When each status of `verify` must come, if the outside lets it be.
pub record MustVerify (policy certs : Told) (code : ℕ) : Type 0 where
  -- certificates that prove the policy are found to do so
  pub proves : (p : Meaning) (file : List ℕ) → Spells policy p → Holds kind.Certificates certs file →
      Proves p file → OneOf (0 ∷ 4 ∷ 5 ∷ 6 ∷ []) code
  -- a text that isn't of the form gets its first bad line
  pub bad_line : (p : Meaning) (file : List ℕ) (line : ℕ) → Spells policy p → Holds kind.Certificates certs file →
      IsFirstBadLine file line → OneOf (2 ∷ 4 ∷ 5 ∷ 6 ∷ []) code
  -- and one that is wrong for the policy the place where it is
  pub wrong : (p : Meaning) (file : List ℕ) (name : ObName) (place : ℕ) → Spells policy p →
      Holds kind.Certificates certs file → IsWrongAt p file name place → OneOf (4 ∷ 5 ∷ 6 ∷ 11 ∷ []) code
  -- a policy's text that isn't judged gets the status for it
  pub unjudged : (file : List ℕ) → Holds kind.Certificates certs file → Refuses policy code

-- What `verify` says of a policy and certificates in files of which this is told is true.
pub record VerifiesTruly (policy certs : Told) (before after : Option (List ℕ)) (code : ℕ) : Type 0 where
  pub ends : OneOf (0 ∷ 2 ∷ 4 ∷ 5 ∷ 6 ∷ 10 ∷ 11 ∷ []) code
  pub verified : code ≡ 0 → WritesVerified policy certs before after
  pub wrong : code ≡ 11 → WritesWrong policy certs before after
  pub must : MustVerify policy certs code
  pub bad_text : code ≡ 2 → TellsFault policy before after ⊎ BadCertificates policy certs before after

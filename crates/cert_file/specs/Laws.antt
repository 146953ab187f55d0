-- What the definitions are meant to give, as laws over all texts.
use Rattle.std.specs.Prelude.{◌≡◌, ℕ, List, Result, Ok, Err}
use Rattle.linear_cert.specs.Right.{CertTree}
use Rattle.policy_tree.specs.Meaning.{Meaning}
use Rattle.policy_eval.specs.Obligations.{MeetsObligations}
use Rattle.policy_eval.specs.Resolved.{IsResolved}
use Rattle.cert_file.specs.Answers.{IsWritten, MustAnswer}
use Rattle.cert_file.specs.BadLines.{IsFirstBadLine}
use Rattle.cert_file.specs.Text.{SpellsCertificateFile}
use Rattle.cert_file.specs.Wrong.{Proves}
use Rattle.cert_file.specs.declared.answer.Verified.{Verified}
use Rattle.cert_file.specs.declared.answer.VerifyFault.{VerifyFault}
use Rattle.cert_file.specs.declared.answer.VerifyFault.TheVariants.{Memory}

-- a text spells one file's certificates at most, or has one first bad line, and not both
pub record OneReading : Type 0 where
  pub one_file : (text : List ℕ) (one two : List (List CertTree)) →
      SpellsCertificateFile text one → SpellsCertificateFile text two → one ≡ two
  pub one_bad_line : (text : List ℕ) (one two : ℕ) → IsFirstBadLine text one → IsFirstBadLine text two → one ≡ two
  pub not_both : (text : List ℕ) (lists : List (List CertTree)) (line : ℕ) →
      SpellsCertificateFile text lists → IsFirstBadLine text line → ⊥

-- A policy meets its statements where a file proves it, whoever made the file.
abbrev pub ProvedMeet : Type 0
ProvedMeet = (p : Meaning) (text : List ℕ) → IsResolved p → Proves p text → MeetsObligations p

-- the file was verified, or there was no memory
abbrev pub IsOkOrMemory : Result Verified VerifyFault → Type 0
IsOkOrMemory (Ok verified) = Unit {0}
IsOkOrMemory (Err fault) = fault ≡ Memory

-- Of a file that was written for a policy, as `write_certs` writes it, what must be answered is Ok, or the want of memory.
abbrev pub WrittenIsVerified : Type 0
WrittenIsVerified = (p : Meaning) (text : List ℕ) (result : Result Verified VerifyFault) → IsWritten p text →
    MustAnswer p text result → IsOkOrMemory result

-- Which answer of `verify` a policy and certificates get, and how it is written.
use Rattle.std.specs.Prelude.{ℕ, List, ◌++◌, codes, decimal}
use Rattle.policy_tree.specs.Meaning.{Meaning}
use Rattle.policy_reader.specs.Spelled.{SpellsPolicy}
use Rattle.obligations.specs.Names.{ob_text}
use Rattle.cert_file.specs.Answers.{IsUncrowded, IsVerified}
use Rattle.cert_file.specs.BadLines.{IsFirstBadLine}
use Rattle.cert_file.specs.Wrong.{IsWrongAt}
use Rattle.policy_answers.specs.Checks.{IsRefusal}
use Rattle.policy_answers.specs.Lines.{refusal_line}
use Rattle.policy_answers.specs.declared.verifying.VerifyAnswer.{VerifyAnswer}
use Rattle.policy_answers.specs.declared.verifying.VerifyAnswer.TheVariants as answer

-- that is the answer of `verify` to the texts of a policy and of certificates
abbrev pub IsVerifyOf : (policy certs : List ℕ) → VerifyAnswer → Type 0
IsVerifyOf policy certs (answer.Verified verified) =
    (p : Meaning) × SpellsPolicy policy p × IsVerified p certs verified
IsVerifyOf policy certs (answer.BadLine line) =
    (p : Meaning) × SpellsPolicy policy p × IsUncrowded p × IsFirstBadLine certs line
IsVerifyOf policy certs (answer.Wrong name place) =
    (p : Meaning) × SpellsPolicy policy p × IsUncrowded p × IsWrongAt p certs name place
IsVerifyOf policy certs (answer.Unjudged why) = IsRefusal policy why

-- the line of a policy that is proved, which has so many systems
abbrev pub verified_line : ℕ → List ℕ
verified_line systems = codes "verified " ++ (decimal systems ++ codes "\n")

-- the line of `verify`
abbrev pub verify_line : VerifyAnswer → List ℕ
verify_line (answer.Verified verified) = verified_line verified.systems
verify_line (answer.BadLine line) = codes "certs " ++ (decimal line ++ codes " bad-line\n")
verify_line (answer.Wrong name place) = codes "wrong " ++ (ob_text name ++ (codes " " ++ (decimal place ++ codes "\n")))
verify_line (answer.Unjudged why) = refusal_line why

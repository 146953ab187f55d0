-- Policies that can be played: those whose handlers are certified, whatever else is known of them.
use Rattle.std.specs.Prelude.{◌≡◌, ◌||◌, Bool, true, false, not, IsTrue, List, map}
use Rattle.std.specs.List.{AllByRecursion, list_all}
use Rattle.linear_cert.specs.Right.{CertTree}
use Rattle.policy_tree.specs.Meaning.{Meaning}
use Rattle.obligations.specs.declared.names.ObName.{ObName}
use Rattle.obligations.specs.declared.names.ObName.TheVariants as name
use Rattle.obligations.specs.Names.{ob_names}
use Rattle.policy_checker.specs.Certified.{Certifies, KeepsCertificates}
use Rattle.policy_checker.specs.declared.answer.Answered.{Answered}
use Rattle.policy_checker.specs.declared.answer.ObAnswer.{ObAnswer}
use Rattle.policy_checker.specs.declared.answer.ObAnswer.TheVariants as answer
use Rattle.policy_checker.specs.declared.verdict.Verdict.{Verdict}
use Rattle.policy_checker.specs.declared.verdict.Verdict.TheVariants as verdict

-- whether the obligation is one of a handler: that its cases don't overlap, or that they leave no gap
abbrev pub is_of_handler : ObName → Bool
is_of_handler name.B1 = false
is_of_handler name.B2 = false
is_of_handler name.B3 = false
is_of_handler name.B4 = false
is_of_handler name.H1Enqueue = true
is_of_handler name.H2Enqueue = true
is_of_handler name.H1Tick = true
is_of_handler name.H2Tick = true
is_of_handler name.H1Yield = true
is_of_handler name.H2Yield = true
is_of_handler name.H1Block = true
is_of_handler name.H2Block = true

-- whether the answer is that the obligation holds
abbrev pub is_holding : ObAnswer → Bool
is_holding (answer.Holds certs) = true
is_holding (answer.Fails point) = false
is_holding (answer.Undecided points) = false

-- whether the obligation is none of a handler or is answered to hold
abbrev pub lets_play : Answered → Bool
lets_play answered = not (is_of_handler answered.name) || is_holding answered.answer

-- whether each handler obligation is answered to hold
abbrev pub all_let_play : List Answered → Bool
all_let_play answers = list_all lets_play answers

-- whether a verdict says so of its policy. An accepted one has all its obligations answered to hold
abbrev pub is_playable : Verdict → Bool
is_playable (verdict.Accepted policy) = true
is_playable (verdict.Refused answers policy) = all_let_play answers
is_playable (verdict.Undecided answers policy) = all_let_play answers

-- each system of each handler obligation has a certificate that is right
abbrev pub HasCertifiedHandlers : Meaning → Type 0
HasCertifiedHandlers p =
    (name : ObName) → IsTrue (is_of_handler name) → (trees : List CertTree) × Certifies p name trees

-- the answer keeps the certificates of its obligation, if that is one of a handler
abbrev pub KeepsOfHandler : Meaning → Answered → Type 0
KeepsOfHandler p answered = IsTrue (is_of_handler answered.name) → KeepsCertificates p answered

-- the answers keep a certificate for each system of each handler obligation
pub record KeepHandlers (p : Meaning) (answers : List Answered) : Type 0 where
  pub names : map (λ (answered : Answered). answered.name) answers ≡ ob_names
  pub each : AllByRecursion (KeepsOfHandler p) answers

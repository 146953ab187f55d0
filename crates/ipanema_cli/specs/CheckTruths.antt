-- What `check` says is true, and what every command says of a policy that is not accepted.
use Rattle.std.specs.Prelude.{◌≡◌, ◌≢◌, ℕ, ◌≤◌, List, [], ◌∷◌, Option, None, All, length}
use Rattle.sched_io.specs.Puts.{joined}
use Rattle.sched_io.specs.Told.{Told, holds}
use Rattle.sched_io.specs.Written.{Adds}
use Rattle.sched_base.specs.declared.limits.TheConstants.{CHECK_BUDGET}
use Rattle.policy_eval.specs.Obligations.{MeetsObligations}
use Rattle.policy_eval.specs.Ranges.{greatest_weight, least_weight}
use Rattle.policy_tree.specs.Meaning.{Meaning, meaning_of}
use Rattle.policy_reader.specs.declared.fault.TextFault.{TextFault}
use Rattle.policy_reader.specs.Faults.{HasFault}
use Rattle.policy_reader.specs.Lines.{fault_line}
use Rattle.policy_reader.specs.Spelled.{SpellsPolicy}
use Rattle.obligations.specs.declared.names.ObName.{ObName}
use Rattle.obligations.specs.Counts.{first_crowded}
use Rattle.obligations.specs.DifferencePolicies.{ComparesDifferences}
use Rattle.obligations.specs.Names.{ob_names, statement_of}
use Rattle.obligations.specs.Systems.{systems_of}
use Rattle.policy_checker.specs.Answers as obligation
use Rattle.policy_checker.specs.Certified.{IsCertified}
use Rattle.policy_checker.specs.Outcomes.{HasOpen, IsTold, outcome_of}
use Rattle.policy_checker.specs.Verdicts.{IsVerdict, policy_of}
use Rattle.policy_checker.specs.declared.answer.Answered.{Answered}
use Rattle.policy_checker.specs.declared.answer.ObAnswer.{ObAnswer}
use Rattle.policy_checker.specs.declared.verdict.Verdict.{Verdict}
use Rattle.policy_checker.specs.declared.verdict.Verdict.TheVariants as verdict
use Rattle.policy_answers.specs.Lines.{verdict_lines}
use Rattle.round_model.specs.declared.entry.Entry.{Entry}
use Rattle.round_model.specs.declared.plan.Plan.{Plan}
use Rattle.round_model.specs.Fits.{Fits}
use Rattle.round_model.specs.Legal.{Legal}
use Rattle.round_laws.specs.IdleBound.{PaysByIdleCores}
use Rattle.round_laws.specs.MainTheorem.{WastesNoCore}
use Rattle.ipanema_cli.specs.Causes.{OneOf}
use Rattle.ipanema_cli.specs.Status.{code_of, verdict_status}
use Rattle.ipanema_cli.specs.Texts.{MayRead, room_of}
use Rattle.ipanema_cli.specs.declared.texts.TextKind.{TextKind}
use Rattle.ipanema_cli.specs.declared.texts.TextKind.TheVariants as kind

-- The policy's file may hold a text that spells this policy.
abbrev pub MaySpell : Told → Meaning → Type 0
MaySpell told p = (text : List ℕ) × MayRead kind.Policy told text × SpellsPolicy text p

-- The file holds this text, which isn't longer than such a text may be.
pub record Holds (which : TextKind) (told : Told) (text : List ℕ) : Type 0 where
  pub is : told ≡ holds text
  pub short : length text ≤ room_of which

-- The policy's file holds a text that spells this policy, and no obligation of it has too many cases.
pub record Spells (policy : Told) (p : Meaning) : Type 0 where
  pub text : List ℕ
  pub held : Holds kind.Policy policy text
  pub spells : SpellsPolicy text p
  pub few : first_crowded p ob_names ≡ None

-- Bounded elimination leaves a system of an obligation of the policy open.
abbrev pub SomeIsOpen : Meaning → Type 0
SomeIsOpen p = (name : ObName) × HasOpen (systems_of p (statement_of name))

-- What is told of the obligation of that name has its reason, and is true.
pub record IsTrueOfOne (p : Meaning) (name : ObName) (answer : ObAnswer) : Type 0 where
  -- behind `holds` is a certificate that is right for each of its systems, behind `fails` a point that solves one
  pub reason : obligation.IsAnswer CHECK_BUDGET (systems_of p (statement_of name)) answer
  pub word : IsTold p name (outcome_of answer)

abbrev pub IsToldTruly : Meaning → Answered → Type 0
IsToldTruly p answered = IsTrueOfOne p answered.name answered.answer

-- What a verdict says of each obligation is true.
abbrev pub AllToldTruly : Meaning → Verdict → Type 0
AllToldTruly p (verdict.Accepted policy) = MeetsObligations p
AllToldTruly p (verdict.Refused answers policy) = All (IsToldTruly p) answers
AllToldTruly p (verdict.Undecided answers policy) = All (IsToldTruly p) answers

-- The lines that are written answer for a policy, which the policy's file may spell.
pub record AnswersFor (policy : Told) (before after : Option (List ℕ)) (code : ℕ) : Type 0 where
  pub p : Meaning
  pub verdict : Verdict
  pub spelled : MaySpell policy p
  pub of : meaning_of (policy_of verdict) ≡ p
  pub reasons : IsVerdict p CHECK_BUDGET verdict
  pub words : AllToldTruly p verdict
  pub written : Adds (joined (verdict_lines verdict)) before after
  -- the status is that of the verdict
  pub status : code ≡ code_of (verdict_status verdict)

-- The text's fault is written.
pub record TellsFault (policy : Told) (before after : Option (List ℕ)) : Type 0 where
  pub text : List ℕ
  pub read : MayRead kind.Policy policy text
  pub fault : TextFault
  pub has : HasFault text fault
  pub written : Adds (fault_line fault) before after

-- In every legal history of every plan that fits the policy, wasted rounds are paid for by the idle cores that they
-- fill.
abbrev pub PaysForWaste : Meaning → Type 0
PaysForWaste p = (plan : Plan) (history : List Entry) → Fits p plan → Legal p plan history →
    PaysByIdleCores p plan history

-- What a policy has that is accepted.
pub record AcceptedPolicy (policy : Told) (p : Meaning) : Type 0 where
  pub spelled : MaySpell policy p
  -- a certificate that is right for each system of each obligation
  pub certified : IsCertified p
  -- it meets each of its statements
  pub meets : MeetsObligations p
  -- and so, in every legal history of every plan that fits it, each thread stands in one place, each failed steal is
  -- explained, and still rounds conserve work
  pub wastes_no_core : WastesNoCore p
  -- and where all threads weigh the same, wasted rounds fill idle cores
  pub pays : least_weight p.load ≡ greatest_weight p.load → PaysForWaste p

-- When each status of `check` must come, if the outside lets it be.
pub record Decides (policy : Told) (code : ℕ) : Type 0 where
  -- a policy that meets its obligations is accepted or left undecided, and another one refused or left undecided
  pub accepts : (p : Meaning) → Spells policy p → MeetsObligations p → OneOf (0 ∷ 3 ∷ 4 ∷ 5 ∷ 6 ∷ []) code
  pub refuses : (p : Meaning) → Spells policy p → (MeetsObligations p → ⊥) → OneOf (1 ∷ 3 ∷ 4 ∷ 5 ∷ 6 ∷ []) code
  -- and none is left undecided of which no system is open
  pub decides : (p : Meaning) → Spells policy p → (SomeIsOpen p → ⊥) → code ≢ 3

-- When a text isn't judged, if the outside lets it be.
pub record Refuses (policy : Told) (code : ℕ) : Type 0 where
  -- an obligation has too many cases
  pub crowded : (text : List ℕ) (p : Meaning) → Holds kind.Policy policy text → SpellsPolicy text p →
      first_crowded p ob_names ≢ None → OneOf (4 ∷ 5 ∷ 6 ∷ 10 ∷ []) code
  -- the text is no policy
  pub faulty : (text : List ℕ) (fault : TextFault) → Holds kind.Policy policy text → HasFault text fault →
      OneOf (2 ∷ 4 ∷ 5 ∷ 6 ∷ []) code

-- What `check` says of the policy in a file of which this is told is true.
pub record ChecksTruly (policy : Told) (before after : Option (List ℕ)) (code : ℕ) : Type 0 where
  -- an accepted policy wastes no core
  pub accepted : code ≡ 0 → (p : Meaning) × AcceptedPolicy policy p
  -- each line that says that an obligation holds, fails or is undecided has its reason and is true
  pub lines : OneOf (0 ∷ 1 ∷ 3 ∷ []) code → AnswersFor policy before after code
  pub decides : Decides policy code
  -- no policy is left undecided that counts threads and compares constants with variables and differences of two alone
  pub differences : (p : Meaning) → Spells policy p → ComparesDifferences p → code ≢ 3
  pub refuses : Refuses policy code
  pub bad_text : code ≡ 2 → TellsFault policy before after

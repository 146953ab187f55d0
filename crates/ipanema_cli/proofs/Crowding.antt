-- The number 10 of an answer is that of a policy with an obligation that has too many cases.
use Rattle.std.proofs.Common.{◌≡◌, ◌≢◌, ℕ, List, [], ◌∷◌, Option, Some, None, arith}
use Rattle.sched_io.specs.Puts.{joined}
use Rattle.sched_io.specs.Told.{Told}
use Rattle.sched_io.specs.Written.{Adds}
use Rattle.obligations.specs.declared.names.ObName.{ObName}
use Rattle.policy_checker.specs.declared.answer.Outcome.{Outcome}
use Rattle.policy_checker.specs.declared.answer.Outcome.TheVariants as outcome
use Rattle.wait_answers.specs.declared.answering.WaitAnswer.{WaitAnswer}
use Rattle.wait_answers.specs.declared.answering.WaitAnswer.TheVariants as waited
use Rattle.wait_classes.specs.declared.classes.WaitClass.{WaitClass}
use Rattle.wait_classes.specs.declared.classes.WaitClass.TheVariants as wait
use Rattle.starving_plays.specs.declared.searching.Starving.{Starving}
use Rattle.policy_checker.specs.declared.rest_gaps.LeastGap.{LeastGap}
use Rattle.policy_checker.specs.declared.rest_gaps.LeastGap.TheVariants as gap
use Rattle.policy_checker.specs.declared.verdict.Verdict.TheVariants as verdict
use Rattle.policy_answers.specs.Bounds.{IsBoundOf, bound_lines}
use Rattle.policy_answers.specs.Checks.{IsCheckOf, IsExplainOf, IsRefusal}
use Rattle.policy_answers.specs.Lines.{check_lines, explain_lines, refusal_line}
use Rattle.policy_answers.specs.Rests.{IsRestOf, rest_lines}
use Rattle.policy_answers.specs.Verifying.{IsVerifyOf, verify_line}
use Rattle.wait_answers.specs.Waits.{IsWaitOf, wait_lines}
use Rattle.policy_answers.specs.declared.answer.CheckAnswer.{CheckAnswer}
use Rattle.policy_answers.specs.declared.answer.CheckAnswer.TheVariants as checked
use Rattle.policy_answers.specs.declared.bounding.BoundAnswer.{BoundAnswer}
use Rattle.policy_answers.specs.declared.bounding.BoundAnswer.TheVariants as bounded
use Rattle.policy_answers.specs.declared.resting.RestAnswer.{RestAnswer}
use Rattle.policy_answers.specs.declared.resting.RestAnswer.TheVariants as rested
use Rattle.policy_answers.specs.declared.explaining.ExplainAnswer.{ExplainAnswer}
use Rattle.policy_answers.specs.declared.explaining.ExplainAnswer.TheVariants as explained
use Rattle.policy_answers.specs.declared.reading.Refusal.{Refusal}
use Rattle.policy_answers.specs.declared.reading.Refusal.TheVariants as refusal
use Rattle.policy_answers.specs.declared.verifying.VerifyAnswer.{VerifyAnswer}
use Rattle.policy_answers.specs.declared.verifying.VerifyAnswer.TheVariants as verified
use Rattle.command_words.specs.Command.{Asked}
use Rattle.ipanema_cli.specs.Causes.{SaysCrowded}
use Rattle.ipanema_cli.specs.Files.{IsFileOf}
use Rattle.ipanema_cli.specs.Status.{bound_status, check_status, code_of, explain_status, gap_status, outcome_status, refusal_status, rest_status, verify_status, wait_status, waiting_status}
use Rattle.ipanema_cli.specs.Texts.{MayRead}
use Rattle.ipanema_cli.specs.declared.texts.TextKind.TheVariants as kind
use Rattle.ipanema_cli.proofs.WritesLemmas.{one_line}

outcome_not_10 : (told : Outcome) → code_of (outcome_status told) ≢ 10
outcome_not_10 outcome.Holds e = omega arith
outcome_not_10 outcome.Fails e = omega arith
outcome_not_10 outcome.Undecided e = omega arith

gap_not_10 : (found : LeastGap) → code_of (gap_status found) ≢ 10
gap_not_10 gap.Even e = omega arith
gap_not_10 (gap.Least least wider) e = omega arith
gap_not_10 (gap.Undecided at proved) e = omega arith

waiting_not_10 : (class : WaitClass) (starving : Option Starving) → code_of (waiting_status class starving) ≢ 10
waiting_not_10 wait.Queue None e = omega arith
waiting_not_10 (wait.Slices a keeps) None e = omega arith
waiting_not_10 (wait.Least a) None e = omega arith
waiting_not_10 wait.Unknown None e = omega arith
waiting_not_10 class (Some starving) e = omega arith

module _ (asked : Option Asked) (told : List ℕ → Told) (before after : Option (List ℕ)) (policy text : List ℕ) (file : IsFileOf asked kind.Policy policy)
    (read : MayRead kind.Policy (told policy) text) where
  refusal_crowds : (why : Refusal) → IsRefusal text why → code_of (refusal_status why) ≡ 10 → Adds (joined (refusal_line why ∷ [])) before after → SaysCrowded asked told before after
  refusal_crowds (refusal.Faulty fault) is e added = absurd (omega arith)
  refusal_crowds (refusal.Crowded name) is e added = (policy, text, name, file, read, is, one_line (refusal_line (refusal.Crowded name)) before after added)

  pub check_crowds : (c : CheckAnswer) → IsCheckOf text c → code_of (check_status c) ≡ 10 → Adds (joined (check_lines c)) before after → SaysCrowded asked told before after
  check_crowds (checked.Judged (verdict.Accepted kept)) is e added = absurd (omega arith)
  check_crowds (checked.Judged (verdict.Refused answers kept)) is e added = absurd (omega arith)
  check_crowds (checked.Judged (verdict.Undecided answers kept)) is e added = absurd (omega arith)
  check_crowds (checked.Unjudged why) is e added = refusal_crowds why is e added

  pub explain_crowds : (name : ObName) (x : ExplainAnswer) → IsExplainOf text name x → code_of (explain_status x) ≡ 10 → Adds (joined (explain_lines x)) before after → SaysCrowded asked told before after
  explain_crowds name (explained.Explained x) is e added = absurd (outcome_not_10 x.outcome e)
  explain_crowds name (explained.Unjudged why) is e added = refusal_crowds why is e added

  pub bound_crowds : (b : BoundAnswer) → IsBoundOf text b → code_of (bound_status b) ≡ 10 → Adds (joined (bound_lines b)) before after → SaysCrowded asked told before after
  bound_crowds (bounded.Bounded b) is e added = absurd (outcome_not_10 b.outcome e)
  bound_crowds (bounded.Unbounded c) is e added = check_crowds c is.0 e added

  pub rest_crowds : (r : RestAnswer) → IsRestOf text r → code_of (rest_status r) ≡ 10 → Adds (joined (rest_lines r)) before after → SaysCrowded asked told before after
  rest_crowds (rested.Rests r) is e added = absurd (gap_not_10 r.gap e)
  rest_crowds (rested.Unaccepted c) is e added = check_crowds c is.0 e added

  pub wait_crowds : (w : WaitAnswer) → IsWaitOf text w → code_of (wait_status w) ≡ 10 → Adds (joined (wait_lines w)) before after → SaysCrowded asked told before after
  wait_crowds (waited.Waits w) is e added = absurd (waiting_not_10 w.class w.starving e)
  wait_crowds (waited.Unaccepted c) is e added = check_crowds c is.0 e added

  pub verify_crowds : (certs : List ℕ) (v : VerifyAnswer) → IsVerifyOf text certs v → code_of (verify_status v) ≡ 10 → Adds (joined (verify_line v ∷ [])) before after → SaysCrowded asked told before after
  verify_crowds certs (verified.Verified v) is e added = absurd (omega arith)
  verify_crowds certs (verified.BadLine line) is e added = absurd (omega arith)
  verify_crowds certs (verified.Wrong name place) is e added = absurd (omega arith)
  verify_crowds certs (verified.Unjudged why) is e added = refusal_crowds why is e added

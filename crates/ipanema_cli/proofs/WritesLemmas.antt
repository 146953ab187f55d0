-- What a status tells of what was written.
use Rattle.std.proofs.Common.{◌≡◌, ◌≢◌, ℕ, ◌⊎◌, inl, inr, List, [], ◌∷◌, Option, Some, None, append-nil, refl, sym, ◌∙◌, subst, arith}
use Rattle.sched_io.specs.Puts.{WritesPart, joined}
use Rattle.sched_io.specs.Shown.{Shown}
use Rattle.sched_io.specs.Written.{Adds}
use Rattle.policy_checker.specs.declared.answer.Outcome.{Outcome}
use Rattle.policy_checker.specs.declared.answer.Outcome.TheVariants as outcome
use Rattle.policy_checker.specs.declared.verdict.Verdict.TheVariants as verdict
use Rattle.policy_answers.specs.declared.answer.CheckAnswer.{CheckAnswer}
use Rattle.policy_answers.specs.declared.answer.CheckAnswer.TheVariants as checked
use Rattle.policy_answers.specs.declared.bounding.BoundAnswer.{BoundAnswer}
use Rattle.policy_answers.specs.declared.bounding.BoundAnswer.TheVariants as bounded
use Rattle.policy_answers.specs.declared.resting.RestAnswer.{RestAnswer}
use Rattle.policy_answers.specs.declared.resting.RestAnswer.TheVariants as rested
use Rattle.wait_answers.specs.declared.answering.WaitAnswer.{WaitAnswer}
use Rattle.wait_answers.specs.declared.answering.WaitAnswer.TheVariants as waited
use Rattle.wait_classes.specs.declared.classes.WaitClass.{WaitClass}
use Rattle.wait_classes.specs.declared.classes.WaitClass.TheVariants as wait
use Rattle.starving_plays.specs.declared.searching.Starving.{Starving}
use Rattle.policy_checker.specs.declared.rest_gaps.LeastGap.{LeastGap}
use Rattle.policy_checker.specs.declared.rest_gaps.LeastGap.TheVariants as gap
use Rattle.policy_answers.specs.declared.explaining.ExplainAnswer.{ExplainAnswer}
use Rattle.policy_answers.specs.declared.explaining.ExplainAnswer.TheVariants as explained
use Rattle.policy_answers.specs.declared.reading.Refusal.{Refusal}
use Rattle.policy_answers.specs.declared.reading.Refusal.TheVariants as refusal
use Rattle.policy_answers.specs.declared.verifying.VerifyAnswer.{VerifyAnswer}
use Rattle.policy_answers.specs.declared.verifying.VerifyAnswer.TheVariants as verify
use Rattle.trace_play.specs.declared.answer.PlayAnswer.{PlayAnswer}
use Rattle.trace_play.specs.declared.answer.PlayAnswer.TheVariants as play_answer
use Rattle.trace_play.specs.declared.cores.PlayedCores.TheVariants as cores
use Rattle.trace_simulation.specs.declared.answer.PlayedWaste.TheVariants as wasted
use Rattle.trace_simulation.specs.declared.answer.SimulationAnswer.{SimulationAnswer}
use Rattle.trace_simulation.specs.declared.answer.SimulationAnswer.TheVariants as simulation
use Rattle.ipanema_cli.specs.Answers.{lines_of, output_of, play_status, status_of}
use Rattle.history_replay.specs.declared.answer.HistoryAnswer.{HistoryAnswer}
use Rattle.history_reasons.specs.declared.explaining.Explanation.TheVariants as explanation
use Rattle.history_replay.specs.declared.answer.HistoryAnswer.TheVariants as judged
use Rattle.history_replay.specs.declared.refusal.HistoryRefusal.TheVariants as no_history
use Rattle.ipanema_cli.specs.Ends.{Writes, cut_off, written}
use Rattle.ipanema_cli.specs.Status.{bound_status, check_status, code_of, explain_status, gap_status, rest_status, history_status, outcome_status, refusal_status, simulation_status, verify_status, wait_status, waiting_status}
use Rattle.ipanema_cli.specs.declared.answers.Answer.{Answer}
use Rattle.ipanema_cli.specs.declared.answers.Answer.TheVariants as answer

-- the number that an answer ends with
pub data AnswerCode (code : ℕ) : Type 0 where
  is_0 : code ≡ 0 → AnswerCode code
  is_1 : code ≡ 1 → AnswerCode code
  is_2 : code ≡ 2 → AnswerCode code
  is_3 : code ≡ 3 → AnswerCode code
  is_7 : code ≡ 7 → AnswerCode code
  is_8 : code ≡ 8 → AnswerCode code
  is_9 : code ≡ 9 → AnswerCode code
  is_10 : code ≡ 10 → AnswerCode code
  is_11 : code ≡ 11 → AnswerCode code

refusal_code : (why : Refusal) → AnswerCode (code_of (refusal_status why))
refusal_code (refusal.Faulty fault) = is_2 refl
refusal_code (refusal.Crowded name) = is_10 refl

check_code : (c : CheckAnswer) → AnswerCode (code_of (check_status c))
check_code (checked.Judged (verdict.Accepted policy)) = is_0 refl
check_code (checked.Judged (verdict.Refused answers policy)) = is_1 refl
check_code (checked.Judged (verdict.Undecided answers policy)) = is_3 refl
check_code (checked.Unjudged why) = refusal_code why

outcome_code : (told : Outcome) → AnswerCode (code_of (outcome_status told))
outcome_code outcome.Holds = is_0 refl
outcome_code outcome.Fails = is_1 refl
outcome_code outcome.Undecided = is_3 refl

explain_code : (e : ExplainAnswer) → AnswerCode (code_of (explain_status e))
explain_code (explained.Explained told) = outcome_code told.outcome
explain_code (explained.Unjudged why) = refusal_code why

bound_code : (b : BoundAnswer) → AnswerCode (code_of (bound_status b))
bound_code (bounded.Bounded told) = outcome_code told.outcome
bound_code (bounded.Unbounded c) = check_code c

gap_code : (found : LeastGap) → AnswerCode (code_of (gap_status found))
gap_code gap.Even = outcome_code outcome.Holds
gap_code (gap.Least least wider) = outcome_code outcome.Holds
gap_code (gap.Undecided at proved) = outcome_code outcome.Undecided

rest_code : (r : RestAnswer) → AnswerCode (code_of (rest_status r))
rest_code (rested.Rests told) = gap_code told.gap
rest_code (rested.Unaccepted c) = check_code c

waiting_code : (class : WaitClass) (starving : Option Starving) → AnswerCode (code_of (waiting_status class starving))
waiting_code wait.Queue None = is_0 refl
waiting_code (wait.Slices a keeps) None = is_0 refl
waiting_code (wait.Least a) None = is_0 refl
waiting_code wait.Unknown None = is_3 refl
waiting_code class (Some starving) = is_1 refl

wait_code : (w : WaitAnswer) → AnswerCode (code_of (wait_status w))
wait_code (waited.Waits told) = waiting_code told.class told.starving
wait_code (waited.Unaccepted c) = check_code c

verify_code : (v : VerifyAnswer) → AnswerCode (code_of (verify_status v))
verify_code (verify.Verified verified) = is_0 refl
verify_code (verify.BadLine line) = is_2 refl
verify_code (verify.Wrong name place) = is_11 refl
verify_code (verify.Unjudged why) = refusal_code why

play_code : (p : PlayAnswer) → AnswerCode (code_of (play_status p))
play_code (play_answer.Broken fault) = is_2 refl
play_code (play_answer.Played (cores.Whole closed)) = is_0 refl
play_code (play_answer.Played (cores.Full closed)) = is_8 refl

simulation_code : (s : SimulationAnswer) → AnswerCode (code_of (simulation_status s))
simulation_code (simulation.Broken fault) = is_2 refl
simulation_code (simulation.Played (cores.Whole closed)) = is_0 refl
simulation_code (simulation.Played (cores.Full closed)) = is_8 refl
simulation_code (simulation.Wasted (wasted.Whole report)) = is_0 refl
simulation_code (simulation.Wasted (wasted.Full report)) = is_8 refl

history_code : (h : HistoryAnswer) → AnswerCode (code_of (history_status h))
history_code (judged.Whole count) = is_0 refl
history_code (judged.Reported report) = is_0 refl
history_code (judged.Migrated given) = is_0 refl
history_code (judged.Explained (explanation.Whole count)) = is_0 refl
history_code (judged.Explained (explanation.Short count coming)) = is_9 refl
history_code (judged.Explained (explanation.Illegal at why coming)) = is_9 refl
history_code (judged.Refused (no_history.Trace fault)) = is_2 refl
history_code (judged.Refused (no_history.BadLine line)) = is_2 refl
history_code (judged.Refused (no_history.Illegal position)) = is_9 refl
history_code (judged.Refused (no_history.Short count)) = is_9 refl

pub answer_code : (a : Answer) → AnswerCode (code_of (status_of a))
answer_code (answer.Checked c) = check_code c
answer_code (answer.Explained e) = explain_code e
answer_code (answer.Bounded b) = bound_code b
answer_code (answer.Rested r) = rest_code r
answer_code (answer.Waited w) = wait_code w
answer_code (answer.Exported text) = is_0 refl
answer_code (answer.Verified v) = verify_code v
answer_code (answer.Played p) = play_code p
answer_code (answer.Simulated s) = simulation_code s
answer_code (answer.Judged h) = history_code h
answer_code (answer.Made text) = is_0 refl
answer_code (answer.Benched told) = is_0 refl
answer_code (answer.TooLong which) = is_10 refl
answer_code answer.BadWords = is_7 refl

-- the number of an answer is none of those of a stop
pub no_stop : (a : Answer) → (code_of (status_of a) ≢ 4) × (code_of (status_of a) ≢ 5) × (code_of (status_of a) ≢ 6)
no_stop a = elim (answer_code a) [
  | is_0 h ↦ ((λ e. omega arith), (λ e. omega arith), (λ e. omega arith))
  | is_1 h ↦ ((λ e. omega arith), (λ e. omega arith), (λ e. omega arith))
  | is_2 h ↦ ((λ e. omega arith), (λ e. omega arith), (λ e. omega arith))
  | is_3 h ↦ ((λ e. omega arith), (λ e. omega arith), (λ e. omega arith))
  | is_7 h ↦ ((λ e. omega arith), (λ e. omega arith), (λ e. omega arith))
  | is_8 h ↦ ((λ e. omega arith), (λ e. omega arith), (λ e. omega arith))
  | is_9 h ↦ ((λ e. omega arith), (λ e. omega arith), (λ e. omega arith))
  | is_10 h ↦ ((λ e. omega arith), (λ e. omega arith), (λ e. omega arith))
  | is_11 h ↦ ((λ e. omega arith), (λ e. omega arith), (λ e. omega arith))
]

-- one line is its bytes
pub one_line : (line : List ℕ) (before after : Option (List ℕ)) → Adds (joined (line ∷ [])) before after → Adds line before after
one_line line before after added = subst (λ (bytes : List ℕ). Adds bytes before after) (append-nil line) added

-- a status is the answer's, or that of a stop
pub code_among : (a : Answer) (before after : Shown) (code : ℕ) → Writes a before after code → (code ≡ code_of (status_of a)) ⊎ (code ≡ 5)
code_among a before after code (written e all) = inl e
code_among a before after code (cut_off e part) = inr e

-- at the answer's own status all of it was written
pub whole : (a : Answer) (before after : Shown) (code : ℕ) → Writes a before after code → code ≢ 5 → Adds (output_of a) before.written after.written
whole a before after code (written e all) not_cut = all.bytes
whole a before after code (cut_off e part) not_cut = absurd (not_cut e)

pub cut : (a : Answer) (before after : Shown) (code : ℕ) → Writes a before after code → code_of (status_of a) ≢ 5 → code ≡ 5 → WritesPart (lines_of a) before after
cut a before after code (written e all) other h = absurd (other (sym e ∙ h))
cut a before after code (cut_off e part) other h = part

-- The number that the program ends with, and the status of each answer to a policy.
use Rattle.std.specs.Prelude.{ℕ, Option, Some, None}
use Rattle.policy_checker.specs.declared.answer.Outcome.{Outcome}
use Rattle.policy_checker.specs.declared.answer.Outcome.TheVariants as outcome
use Rattle.policy_checker.specs.declared.verdict.Verdict.{Verdict}
use Rattle.policy_checker.specs.declared.verdict.Verdict.TheVariants as verdict
use Rattle.policy_answers.specs.declared.answer.CheckAnswer.{CheckAnswer}
use Rattle.policy_answers.specs.declared.answer.CheckAnswer.TheVariants as check
use Rattle.policy_answers.specs.declared.bounding.BoundAnswer.{BoundAnswer}
use Rattle.policy_answers.specs.declared.bounding.BoundAnswer.TheVariants as bound
use Rattle.policy_answers.specs.declared.resting.RestAnswer.{RestAnswer}
use Rattle.policy_answers.specs.declared.resting.RestAnswer.TheVariants as rested
use Rattle.wait_answers.specs.declared.answering.WaitAnswer.{WaitAnswer}
use Rattle.wait_answers.specs.declared.answering.WaitAnswer.TheVariants as waited
use Rattle.wait_classes.specs.declared.classes.WaitClass.{WaitClass}
use Rattle.wait_classes.specs.declared.classes.WaitClass.TheVariants as wait
use Rattle.starving_plays.specs.declared.searching.Starving.{Starving}
use Rattle.policy_checker.specs.declared.rest_gaps.LeastGap.{LeastGap}
use Rattle.policy_checker.specs.declared.rest_gaps.LeastGap.TheVariants as gap
use Rattle.policy_answers.specs.declared.explaining.ExplainAnswer.{ExplainAnswer}
use Rattle.policy_answers.specs.declared.explaining.ExplainAnswer.TheVariants as explain
use Rattle.policy_answers.specs.declared.reading.Refusal.{Refusal}
use Rattle.policy_answers.specs.declared.reading.Refusal.TheVariants as refusal
use Rattle.policy_answers.specs.declared.verifying.VerifyAnswer.{VerifyAnswer}
use Rattle.policy_answers.specs.declared.verifying.VerifyAnswer.TheVariants as verify
use Rattle.trace_play.specs.declared.cores.PlayedCores.TheVariants as cores
use Rattle.trace_simulation.specs.declared.answer.PlayedWaste.TheVariants as wasted
use Rattle.trace_simulation.specs.declared.answer.SimulationAnswer.{SimulationAnswer}
use Rattle.trace_simulation.specs.declared.answer.SimulationAnswer.TheVariants as simulation
use Rattle.history_reasons.specs.declared.explaining.Explanation.{Explanation}
use Rattle.history_reasons.specs.declared.explaining.Explanation.TheVariants as explained
use Rattle.history_replay.specs.declared.answer.HistoryAnswer.{HistoryAnswer}
use Rattle.history_replay.specs.declared.answer.HistoryAnswer.TheVariants as history
use Rattle.history_replay.specs.declared.refusal.HistoryRefusal.{HistoryRefusal}
use Rattle.history_replay.specs.declared.refusal.HistoryRefusal.TheVariants as history_refusal
use Rattle.ipanema_cli.specs.declared.status.Status.{Status}
use Rattle.ipanema_cli.specs.declared.status.Status.TheVariants as status

abbrev pub code_of : Status → ℕ
code_of status.Done = 0
code_of status.Refused = 1
code_of status.BadText = 2
code_of status.Undecided = 3
code_of status.ReadFault = 4
code_of status.WriteFault = 5
code_of status.Memory = 6
code_of status.BadWords = 7
code_of status.HistoryFull = 8
code_of status.NotWhole = 9
code_of status.TooMuch = 10
code_of status.WrongCertificates = 11

-- the status of an answer to an obligation
abbrev pub outcome_status : Outcome → Status
outcome_status outcome.Holds = status.Done
outcome_status outcome.Fails = status.Refused
outcome_status outcome.Undecided = status.Undecided

-- the status of a verdict
abbrev pub verdict_status : Verdict → Status
verdict_status (verdict.Accepted policy) = status.Done
verdict_status (verdict.Refused answers policy) = status.Refused
verdict_status (verdict.Undecided answers policy) = status.Undecided

-- the status of a text that isn't judged
abbrev pub refusal_status : Refusal → Status
refusal_status (refusal.Faulty fault) = status.BadText
refusal_status (refusal.Crowded name) = status.TooMuch

-- the status of an answer of `check`
abbrev pub check_status : CheckAnswer → Status
check_status (check.Judged verdict) = verdict_status verdict
check_status (check.Unjudged why) = refusal_status why

-- the status of an answer of `explain`
abbrev pub explain_status : ExplainAnswer → Status
explain_status (explain.Explained told) = outcome_status told.outcome
explain_status (explain.Unjudged why) = refusal_status why

-- the status of an answer of `bound`
abbrev pub bound_status : BoundAnswer → Status
bound_status (bound.Bounded told) = outcome_status told.outcome
bound_status (bound.Unbounded checked) = check_status checked

-- the status of what is found of the gap that cores at rest may have
abbrev pub gap_status : LeastGap → Status
gap_status gap.Even = status.Done
gap_status (gap.Least least wider) = status.Done
gap_status (gap.Undecided at proved) = status.Undecided

-- the status of an answer of `rest`
abbrev pub rest_status : RestAnswer → Status
rest_status (rested.Rests told) = gap_status told.gap
rest_status (rested.Unaccepted checked) = check_status checked

-- the status of a class of waiting: where no law applies, nothing is known
abbrev pub class_status : WaitClass → Status
class_status wait.Queue = status.Done
class_status (wait.Slices a keeps) = status.Done
class_status (wait.Least a) = status.Done
class_status wait.Unknown = status.Undecided

-- and of what is told of waiting: a thread may wait for ever, where a trace was found that shows it
abbrev pub waiting_status : WaitClass → Option Starving → Status
waiting_status class None = class_status class
waiting_status class (Some starving) = status.Refused

-- the status of an answer of `waits`
abbrev pub wait_status : WaitAnswer → Status
wait_status (waited.Waits told) = waiting_status told.class told.starving
wait_status (waited.Unaccepted checked) = check_status checked

-- the status of an answer of `verify`
abbrev pub verify_status : VerifyAnswer → Status
verify_status (verify.Verified verified) = status.Done
verify_status (verify.BadLine line) = status.BadText
verify_status (verify.Wrong name place) = status.WrongCertificates
verify_status (verify.Unjudged why) = refusal_status why

-- the status of texts that give no whole history
abbrev pub history_refusal_status : HistoryRefusal → Status
history_refusal_status (history_refusal.Trace fault) = status.BadText
history_refusal_status (history_refusal.BadLine line) = status.BadText
history_refusal_status (history_refusal.Illegal position) = status.NotWhole
history_refusal_status (history_refusal.Short count) = status.NotWhole

-- the status of an explanation
abbrev pub explanation_status : Explanation → Status
explanation_status (explained.Whole count) = status.Done
explanation_status (explained.Short count coming) = status.NotWhole
explanation_status (explained.Illegal at why coming) = status.NotWhole

-- the status of what a history's text comes to
abbrev pub history_status : HistoryAnswer → Status
history_status (history.Whole count) = status.Done
history_status (history.Reported report) = status.Done
history_status (history.Migrated given) = status.Done
history_status (history.Explained explanation) = explanation_status explanation
history_status (history.Refused why) = history_refusal_status why

-- the status of what a trace comes to that is simulated
abbrev pub simulation_status : SimulationAnswer → Status
simulation_status (simulation.Broken fault) = status.BadText
simulation_status (simulation.Played (cores.Whole closed)) = status.Done
simulation_status (simulation.Played (cores.Full closed)) = status.HistoryFull
simulation_status (simulation.Wasted (wasted.Whole report)) = status.Done
simulation_status (simulation.Wasted (wasted.Full report)) = status.HistoryFull

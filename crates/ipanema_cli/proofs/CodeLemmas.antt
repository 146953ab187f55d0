-- Which numbers for the shell the answers have.
use Rattle.std.proofs.Common.{ℕ, List, Option, Some, None}
use Rattle.policy_checker.specs.declared.answer.Outcome.{Outcome}
use Rattle.policy_checker.specs.declared.answer.Outcome.TheVariants as outcome
use Rattle.policy_checker.specs.declared.verdict.Verdict.TheVariants as verdict
use Rattle.policy_answers.specs.declared.answer.CheckAnswer.{CheckAnswer}
use Rattle.policy_answers.specs.declared.answer.CheckAnswer.TheVariants as checked
use Rattle.policy_answers.specs.declared.bounding.BoundAnswer.{BoundAnswer}
use Rattle.policy_answers.specs.declared.bounding.BoundAnswer.TheVariants as bounded
use Rattle.policy_answers.specs.declared.resting.RestAnswer.{RestAnswer}
use Rattle.policy_answers.specs.declared.resting.RestAnswer.TheVariants as rested
use Rattle.wait_answers.specs.declared.answering.WaitAnswer.{WaitAnswer}
use Rattle.wait_answers.specs.declared.answering.WaitAnswer.TheVariants as waited
use Rattle.wait_classes.specs.declared.classes.WaitClass.{WaitClass}
use Rattle.wait_classes.specs.declared.classes.WaitClass.TheVariants as wait
use Rattle.starving_plays.specs.declared.searching.Starving.{Starving}
use Rattle.policy_checker.specs.declared.rest_gaps.LeastGap.{LeastGap}
use Rattle.policy_checker.specs.declared.rest_gaps.LeastGap.TheVariants as gap
use Rattle.policy_answers.specs.declared.explaining.ExplainAnswer.{ExplainAnswer}
use Rattle.policy_answers.specs.declared.explaining.ExplainAnswer.TheVariants as explained
use Rattle.policy_answers.specs.declared.reading.Refusal.{Refusal}
use Rattle.policy_answers.specs.declared.reading.Refusal.TheVariants as refusal
use Rattle.policy_answers.specs.declared.verifying.VerifyAnswer.{VerifyAnswer}
use Rattle.policy_answers.specs.declared.verifying.VerifyAnswer.TheVariants as verified
use Rattle.trace_play.specs.declared.answer.PlayAnswer.{PlayAnswer}
use Rattle.trace_play.specs.declared.answer.PlayAnswer.TheVariants as play_answer
use Rattle.trace_play.specs.declared.cores.PlayedCores.TheVariants as cores
use Rattle.history_replay.specs.declared.answer.HistoryAnswer.{HistoryAnswer}
use Rattle.history_reasons.specs.declared.explaining.Explanation.TheVariants as explanation
use Rattle.history_replay.specs.declared.answer.HistoryAnswer.TheVariants as judged
use Rattle.history_replay.specs.declared.refusal.HistoryRefusal.TheVariants as no_history
use Rattle.trace_simulation.specs.declared.answer.PlayedWaste.TheVariants as wasted
use Rattle.trace_simulation.specs.declared.answer.SimulationAnswer.{SimulationAnswer}
use Rattle.trace_simulation.specs.declared.answer.SimulationAnswer.TheVariants as simulation
use Rattle.ipanema_cli.specs.Answers.{play_status}
use Rattle.ipanema_cli.specs.Causes.{OneOf}
use Rattle.ipanema_cli.specs.Status.{bound_status, check_status, code_of, explain_status, gap_status, history_status, outcome_status, refusal_status, rest_status, simulation_status, verify_status, wait_status, waiting_status}

-- Where these numbers are among some, so is that of each answer of a kind.
module _ (codes : List ℕ) where
  module _ (bad_text : OneOf codes 2) (too_much : OneOf codes 10) where
    pub refusal_among : (why : Refusal) → OneOf codes (code_of (refusal_status why))
    refusal_among (refusal.Faulty fault) = bad_text
    refusal_among (refusal.Crowded name) = too_much

    pub verify_among : OneOf codes 0 → OneOf codes 11 → (v : VerifyAnswer) → OneOf codes (code_of (verify_status v))
    verify_among done wrong (verified.Verified told) = done
    verify_among done wrong (verified.BadLine line) = bad_text
    verify_among done wrong (verified.Wrong name place) = wrong
    verify_among done wrong (verified.Unjudged why) = refusal_among why

    module _ (done : OneOf codes 0) (refused : OneOf codes 1) (undecided : OneOf codes 3) where
      pub check_among : (c : CheckAnswer) → OneOf codes (code_of (check_status c))
      check_among (checked.Judged (verdict.Accepted policy)) = done
      check_among (checked.Judged (verdict.Refused answers policy)) = refused
      check_among (checked.Judged (verdict.Undecided answers policy)) = undecided
      check_among (checked.Unjudged why) = refusal_among why

      outcome_among : (told : Outcome) → OneOf codes (code_of (outcome_status told))
      outcome_among outcome.Holds = done
      outcome_among outcome.Fails = refused
      outcome_among outcome.Undecided = undecided

      gap_among : (found : LeastGap) → OneOf codes (code_of (gap_status found))
      gap_among gap.Even = done
      gap_among (gap.Least least wider) = done
      gap_among (gap.Undecided at proved) = undecided

      pub explain_among : (e : ExplainAnswer) → OneOf codes (code_of (explain_status e))
      explain_among (explained.Explained told) = outcome_among told.outcome
      explain_among (explained.Unjudged why) = refusal_among why

      pub bound_among : (b : BoundAnswer) → OneOf codes (code_of (bound_status b))
      bound_among (bounded.Bounded told) = outcome_among told.outcome
      bound_among (bounded.Unbounded c) = check_among c

      pub rest_among : (r : RestAnswer) → OneOf codes (code_of (rest_status r))
      rest_among (rested.Rests told) = gap_among told.gap
      rest_among (rested.Unaccepted c) = check_among c

      waiting_among : (class : WaitClass) (starving : Option Starving) → OneOf codes (code_of (waiting_status class starving))
      waiting_among wait.Queue None = done
      waiting_among (wait.Slices a keeps) None = done
      waiting_among (wait.Least a) None = done
      waiting_among wait.Unknown None = undecided
      waiting_among class (Some starving) = refused

      pub wait_among : (w : WaitAnswer) → OneOf codes (code_of (wait_status w))
      wait_among (waited.Waits told) = waiting_among told.class told.starving
      wait_among (waited.Unaccepted c) = check_among c

  module _ (bad_text : OneOf codes 2) (done : OneOf codes 0) where
    pub play_among : OneOf codes 8 → (play : PlayAnswer) → OneOf codes (code_of (play_status play))
    play_among full (play_answer.Broken fault) = bad_text
    play_among full (play_answer.Played (cores.Whole closed)) = done
    play_among full (play_answer.Played (cores.Full closed)) = full

    pub history_among : OneOf codes 9 → (h : HistoryAnswer) → OneOf codes (code_of (history_status h))
    history_among not_whole (judged.Whole count) = done
    history_among not_whole (judged.Reported report) = done
    history_among not_whole (judged.Migrated given) = done
    history_among not_whole (judged.Explained (explanation.Whole count)) = done
    history_among not_whole (judged.Explained (explanation.Short count coming)) = not_whole
    history_among not_whole (judged.Explained (explanation.Illegal at why coming)) = not_whole
    history_among not_whole (judged.Refused (no_history.Trace fault)) = bad_text
    history_among not_whole (judged.Refused (no_history.BadLine line)) = bad_text
    history_among not_whole (judged.Refused (no_history.Illegal position)) = not_whole
    history_among not_whole (judged.Refused (no_history.Short count)) = not_whole

    module _ (full : OneOf codes 8) where
      pub simulation_among : (s : SimulationAnswer) → OneOf codes (code_of (simulation_status s))
      simulation_among (simulation.Broken fault) = bad_text
      simulation_among (simulation.Played (cores.Whole closed)) = done
      simulation_among (simulation.Played (cores.Full closed)) = full
      simulation_among (simulation.Wasted (wasted.Whole told)) = done
      simulation_among (simulation.Wasted (wasted.Full told)) = full

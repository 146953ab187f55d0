-- What serial play of a trace's text comes to.
use Rattle.std.specs.Prelude.{◌≡◌, ℕ, List, [], ◌∷◌, length, Option, Some, None}
use Rattle.policy_tree.specs.Meaning.{Meaning}
use Rattle.round_model.specs.declared.entry.Entry.{Entry}
use Rattle.round_model.specs.declared.plan.Plan.{Plan}
use Rattle.round_model.specs.Fits.{Fits}
use Rattle.round_model.specs.Limits.{IsWithinLimits}
use Rattle.job_trace.specs.declared.fault.TraceFault.{TraceFault}
use Rattle.job_trace.specs.declared.plan_fault.PlanFault.{PlanFault}
use Rattle.job_trace.specs.declared.trace.Numbered.{Numbered}
use Rattle.job_trace.specs.Faults.{IsBroken}
use Rattle.job_trace.specs.Plans.{IsForeign, SpellsPlan}
use Rattle.job_trace.specs.TraceText.{SpellsTrace}
use Rattle.serial_steps.specs.declared.serial.Played.{Played}
use Rattle.serial_steps.specs.declared.serial.Played.TheVariants as played
use Rattle.serial_steps.specs.SerialEnds.{IsPlayed}
use Rattle.core_state.specs.Views.{ClosedView}
use Rattle.history_merge.specs.Merged.{CanBeWritten, merged, text_lines}
use Rattle.sched_history.specs.Spelling.{text_of_history}
use Rattle.trace_play.specs.declared.answer.PlayAnswer.{PlayAnswer}
use Rattle.trace_play.specs.declared.answer.PlayAnswer.TheVariants as answer
use Rattle.trace_play.specs.declared.cores.PlayedCores.{PlayedCores}
use Rattle.trace_play.specs.declared.cores.PlayedCores.TheVariants as cores
use Rattle.trace_play.specs.declared.fault.LineFault.{LineFault}
use Rattle.trace_play.specs.declared.planning.PlanStop.{PlanStop}
use Rattle.trace_play.specs.declared.planning.PlanStop.TheVariants as stop
use Rattle.trace_play.specs.Told.{fault_line, told_of_plan, told_of_trace}

-- the history that was played
abbrev pub history_of : Played → List Entry
history_of (played.Whole history) = history
history_of (played.Full history) = history

-- the cores that were played
abbrev pub closed_of : PlayedCores → ClosedView
closed_of (cores.Whole closed) = closed
closed_of (cores.Full closed) = closed

-- what they played: the history of their logs
abbrev pub played_by : PlayedCores → Played
played_by (cores.Whole closed) = played.Whole (merged closed)
played_by (cores.Full closed) = played.Full (merged closed)

-- the bytes of an answer
abbrev pub output_of : PlayAnswer → List ℕ
output_of (answer.Broken fault) = fault_line fault
output_of (answer.Played left) = text_of_history (length (closed_of left).cores) (merged (closed_of left))

-- the lines of an answer
abbrev pub lines_of : PlayAnswer → List (List ℕ)
lines_of (answer.Broken fault) = fault_line fault ∷ []
lines_of (answer.Played left) = text_lines (closed_of left)

-- the answer can be written
abbrev pub IsShown : PlayAnswer → Type 0
IsShown (answer.Broken fault) = Unit {0}
IsShown (answer.Played left) = CanBeWritten (closed_of left)

-- the text has that fault, or it spells a trace that doesn't fit the policy for it
pub data HasFault (p : Meaning) (text : List ℕ) (fault : LineFault) : Type 0 where
  no_trace : (found : TraceFault) → IsBroken text found → told_of_trace found ≡ Some fault → HasFault p text fault
  no_plan : (trace : List Numbered) (found : PlanFault) → SpellsTrace text trace → IsForeign p trace found →
      told_of_plan found ≡ Some fault → HasFault p text fault

-- the text spells a trace, which means that plan under the policy. It is within the limits
pub record MeansPlan (p : Meaning) (text : List ℕ) (plan : Plan) : Type 0 where
  pub trace : List Numbered
  pub spells : SpellsTrace text trace
  pub means : SpellsPlan p trace plan
  pub fits : Fits p plan
  pub limits : IsWithinLimits plan

-- that fault, or want of memory
abbrev pub stop_of : Option LineFault → PlanStop
stop_of (Some fault) = stop.Broken fault
stop_of None = stop.Memory

-- that is why the text gives no plan
abbrev pub IsPlanStop : Meaning → List ℕ → PlanStop → Type 0
IsPlanStop p text (stop.Broken fault) = HasFault p text fault
IsPlanStop p text stop.Memory = Unit {0}

-- the text spells a trace, whose plan fits the policy, and that is what serial play of the plan comes to
pub record PlaysText (p : Meaning) (text : List ℕ) (play : Played) : Type 0 where
  pub trace : List Numbered
  pub spells : SpellsTrace text trace
  pub plan : Plan
  pub means : SpellsPlan p trace plan
  pub fits : Fits p plan
  pub limits : IsWithinLimits plan
  pub played : IsPlayed p plan play

-- so it is with what these cores played, and they are the plan's
pub record PlaysCores (p : Meaning) (text : List ℕ) (left : PlayedCores) : Type 0 where
  pub plays : PlaysText p text (played_by left)
  pub count : length (closed_of left).cores ≡ plays.plan.cores

-- the answer is the one that the text gets under the policy
abbrev pub IsPlayOf : Meaning → List ℕ → PlayAnswer → Type 0
IsPlayOf p text (answer.Broken fault) = HasFault p text fault
IsPlayOf p text (answer.Played left) = PlaysCores p text left

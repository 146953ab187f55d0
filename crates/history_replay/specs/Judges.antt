-- What a trace's text and a history's text come to under a policy.
use Rattle.std.specs.Prelude.{◌≡◌, ℕ, List, length}
use Rattle.policy_tree.specs.Meaning.{Meaning}
use Rattle.round_model.specs.declared.entry.Entry.{Entry}
use Rattle.round_model.specs.declared.plan.Plan.{Plan}
use Rattle.round_model.specs.Legal.{Whole}
use Rattle.trace_play.specs.declared.planning.PlanStop.{PlanStop}
use Rattle.trace_play.specs.declared.planning.PlanStop.TheVariants as plan_stop
use Rattle.trace_play.specs.Plays.{HasFault, MeansPlan}
use Rattle.history_reader.specs.declared.fault.HistoryFault.{HistoryFault}
use Rattle.history_reader.specs.declared.fault.HistoryFault.TheVariants as text_fault
use Rattle.history_reader.specs.Reading.{IsFirstBadLine, SpellsHistory}
use Rattle.history_judge.specs.declared.judgement.ReplayFault.{ReplayFault}
use Rattle.history_judge.specs.declared.judgement.ReplayFault.TheVariants as replay_fault
use Rattle.history_judge.specs.Judgement.{IsFirstIllegal, IsTooShort}
use Rattle.history_reasons.specs.declared.explaining.Explanation.{Explanation}
use Rattle.history_reasons.specs.Explanations.{IsExplanation}
use Rattle.sched_report.specs.declared.rows.FullReport.{FullReport}
use Rattle.sched_report.specs.Reports.{AddsUp, IsPaid, IsReport}
use Rattle.sched_report.specs.RestRows.{RestsInTime}
use Rattle.history_replay.specs.declared.answer.HistoryAnswer.{HistoryAnswer}
use Rattle.history_replay.specs.declared.answer.HistoryAnswer.TheVariants as answer
use Rattle.history_replay.specs.declared.judging.Judged.{Judged}
use Rattle.history_replay.specs.declared.judging.JudgeStop.{JudgeStop}
use Rattle.history_replay.specs.declared.judging.JudgeStop.TheVariants as stop
use Rattle.history_replay.specs.declared.refusal.HistoryRefusal.{HistoryRefusal}
use Rattle.history_replay.specs.declared.refusal.HistoryRefusal.TheVariants as refusal

-- what stops the making of a plan stops a judge
abbrev pub stop_of_plan : PlanStop → JudgeStop
stop_of_plan (plan_stop.Broken fault) = stop.Refused (refusal.Trace fault)
stop_of_plan plan_stop.Memory = stop.Memory

-- and so does what stops the reading of a history
abbrev pub stop_of_text : HistoryFault → JudgeStop
stop_of_text (text_fault.BadLine line) = stop.Refused (refusal.BadLine line)
stop_of_text text_fault.Memory = stop.Memory

-- and a judgement that isn't that it is whole
abbrev pub stop_of_replay : ReplayFault → JudgeStop
stop_of_replay (replay_fault.Illegal position) = stop.Refused (refusal.Illegal position)
stop_of_replay (replay_fault.Short count) = stop.Refused (refusal.Short count)
stop_of_replay replay_fault.Memory = stop.Memory

-- the report is that of the history, half the spread of each stretch pays for its bad rounds and for those before its
-- cores are at rest, and the totals add up
pub record Tells (p : Meaning) (plan : Plan) (history : List Entry) (report : FullReport) : Type 0 where
  pub is : IsReport p plan history report
  pub paid : IsPaid report
  pub rests : RestsInTime report
  pub adds_up : AddsUp report

-- the answer is the report of the history
abbrev pub TellsOf : Meaning → Plan → List Entry → HistoryAnswer → Type 0
TellsOf p plan history (answer.Whole count) = ⊥
TellsOf p plan history (answer.Reported report) = Tells p plan history report
TellsOf p plan history (answer.Migrated judged) = ⊥
TellsOf p plan history (answer.Explained explanation) = ⊥
TellsOf p plan history (answer.Refused why) = ⊥

module _ (p : Meaning) (trace text : List ℕ) where
  -- the one text means this plan, and the other spells this history
  pub record Gives (plan : Plan) (history : List Entry) : Type 0 where
    pub means : MeansPlan p trace plan
    pub spells : SpellsHistory plan.cores text history

  -- the texts give no whole history, and this is the first reason: a fault of the trace before one of the history's
  -- text, and that before the judgement
  abbrev pub HasRefusal : HistoryRefusal → Type 0
  HasRefusal (refusal.Trace fault) = HasFault p trace fault
  HasRefusal (refusal.BadLine line) = (plan : Plan) × MeansPlan p trace plan × IsFirstBadLine plan.cores text line
  HasRefusal (refusal.Illegal position) =
      (plan : Plan) × (history : List Entry) × Gives plan history × IsFirstIllegal p plan history position
  HasRefusal (refusal.Short count) =
      (plan : Plan) × (history : List Entry) × Gives plan history × IsTooShort p plan history count

  -- the texts give no history, for this reason
  abbrev pub GiveNone : HistoryRefusal → Type 0
  GiveNone (refusal.Trace fault) = HasRefusal (refusal.Trace fault)
  GiveNone (refusal.BadLine line) = HasRefusal (refusal.BadLine line)
  GiveNone (refusal.Illegal position) = ⊥
  GiveNone (refusal.Short count) = ⊥

  -- they give this whole history
  pub record IsJudged (judged : Judged) : Type 0 where
    pub gives : Gives judged.plan judged.history
    pub whole : Whole p judged.plan judged.history

  abbrev pub IsJudgeStop : JudgeStop → Type 0
  IsJudgeStop (stop.Refused why) = HasRefusal why
  IsJudgeStop stop.Memory = Unit {0}

  -- the texts can't be judged, for this reason
  abbrev pub IsTextStop : JudgeStop → Type 0
  IsTextStop (stop.Refused why) = GiveNone why
  IsTextStop stop.Memory = Unit {0}

  -- they give a whole history of so many entries
  pub record GivesWhole (count : ℕ) : Type 0 where
    pub plan : Plan
    pub history : List Entry
    pub gives : Gives plan history
    pub whole : Whole p plan history
    pub count_is : count ≡ length history

  -- that is what replay answers to them
  abbrev pub IsReplayOf : HistoryAnswer → Type 0
  IsReplayOf (answer.Whole count) = GivesWhole count
  IsReplayOf (answer.Reported report) = ⊥
  IsReplayOf (answer.Migrated judged) = ⊥
  IsReplayOf (answer.Explained explanation) = ⊥
  IsReplayOf (answer.Refused why) = HasRefusal why

  -- they give a whole history, of which that is told
  pub record GivesReport (report : FullReport) : Type 0 where
    pub plan : Plan
    pub history : List Entry
    pub gives : Gives plan history
    pub whole : Whole p plan history
    pub tells : Tells p plan history report

  -- and that is what report answers
  abbrev pub IsReportOf : HistoryAnswer → Type 0
  IsReportOf (answer.Whole count) = ⊥
  IsReportOf (answer.Reported report) = GivesReport report
  IsReportOf (answer.Migrated judged) = ⊥
  IsReportOf (answer.Explained explanation) = ⊥
  IsReportOf (answer.Refused why) = HasRefusal why

  -- they give the whole history that migrate answers
  abbrev pub IsMigrationOf : HistoryAnswer → Type 0
  IsMigrationOf (answer.Whole count) = ⊥
  IsMigrationOf (answer.Reported report) = ⊥
  IsMigrationOf (answer.Migrated judged) = IsJudged judged
  IsMigrationOf (answer.Explained explanation) = ⊥
  IsMigrationOf (answer.Refused why) = HasRefusal why

  -- they give a history, of which that is the explanation
  pub record GivesExplanation (explanation : Explanation) : Type 0 where
    pub plan : Plan
    pub history : List Entry
    pub gives : Gives plan history
    pub is : IsExplanation p plan history explanation

  -- and that is what why answers
  abbrev pub IsWhyOf : HistoryAnswer → Type 0
  IsWhyOf (answer.Whole count) = ⊥
  IsWhyOf (answer.Reported report) = ⊥
  IsWhyOf (answer.Migrated judged) = ⊥
  IsWhyOf (answer.Explained explanation) = GivesExplanation explanation
  IsWhyOf (answer.Refused why) = GiveNone why

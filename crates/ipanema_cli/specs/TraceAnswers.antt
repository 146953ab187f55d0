-- What a command may answer under an accepted policy to the texts of a trace and a history.
use Rattle.std.specs.Prelude.{ℕ, List}
use Rattle.policy_tree.specs.Meaning.{Meaning}
use Rattle.trace_play.specs.declared.answer.PlayAnswer.{PlayAnswer}
use Rattle.history_replay.specs.declared.answer.HistoryAnswer.{HistoryAnswer}
use Rattle.history_replay.specs.Judges.{IsMigrationOf, IsReplayOf, IsReportOf, IsWhyOf}
use Rattle.ipanema_cli.specs.declared.kinds.HistoryCommand.{HistoryCommand}
use Rattle.ipanema_cli.specs.declared.kinds.HistoryCommand.TheVariants as history_command

-- a command that plays a trace: what it may answer under an accepted policy to the text of a trace
abbrev pub Playing : Type 1
Playing = Meaning → (trace : List ℕ) → PlayAnswer → Type 0

-- a command that judges histories: what it may answer under an accepted policy to the texts of a trace and a history
abbrev pub Judging : Type 1
Judging = Meaning → (trace history : List ℕ) → HistoryAnswer → Type 0

-- what each of them may answer
abbrev pub judging_of : HistoryCommand → Judging
judging_of history_command.Replay = IsReplayOf
judging_of history_command.Report = IsReportOf
judging_of history_command.Migrate = IsMigrationOf
judging_of history_command.Why = IsWhyOf

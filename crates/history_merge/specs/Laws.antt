-- What is meant to hold of histories and their logs.
use Rattle.std.specs.Prelude.{◌≡◌, List}
use Rattle.round_model.specs.declared.entry.Entry.{Entry}
use Rattle.core_state.specs.Logs.{LogsOf}
use Rattle.core_state.specs.Views.{ClosedView}
use Rattle.history_merge.specs.Merged.{merged}

-- two histories that have the same logs are the same
abbrev pub OneHistoryLaw : Type 0
OneHistoryLaw = (closed : ClosedView) (one other : List Entry) → LogsOf one closed → LogsOf other closed → one ≡ other

-- logs of a history come to that history
abbrev pub MergedLaw : Type 0
MergedLaw = (closed : ClosedView) (history : List Entry) → LogsOf history closed → merged closed ≡ history

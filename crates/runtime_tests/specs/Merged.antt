-- A history of two cores with a steal, and its logs.
use Rattle.std.specs.Prelude.{List, [], ◌∷◌}
use Rattle.round_model.specs.declared.entry.Did.TheVariants as did
use Rattle.round_model.specs.declared.entry.Entry.{Entry}
use Rattle.round_model.specs.declared.entry.Entry.TheVariants as entry
use Rattle.core_state.specs.declared.logged.Logged.{Logged}
use Rattle.core_state.specs.Logs.{logged}
use Rattle.core_state.specs.Views.{ClosedView, CoreView}
use Rattle.runtime_tests.specs.Stages.{empty}

-- the steal stands in both logs
abbrev pub with_a_steal : List Entry
with_a_steal =
    entry.Round 1
    ∷ entry.Enter 1 0 0 []
    ∷ entry.Work 1 did.Nothing
    ∷ entry.Steal 1 0 (1 ∷ []) []
    ∷ entry.Pass 0 []
    ∷ entry.Round 2
    ∷ []

abbrev pub first_log : List Logged
first_log = logged 1 (entry.Enter 1 0 0 []) ∷ logged 3 (entry.Steal 1 0 (1 ∷ []) []) ∷ logged 4 (entry.Pass 0 []) ∷ []

abbrev pub second_log : List Logged
second_log = logged 2 (entry.Work 1 did.Nothing) ∷ logged 3 (entry.Steal 1 0 (1 ∷ []) []) ∷ []

abbrev pub rounds_log : List Logged
rounds_log = logged 0 (entry.Round 1) ∷ logged 5 (entry.Round 2) ∷ []

-- a core without threads that has this log
abbrev pub with_log : List Logged → CoreView
with_log log = record empty { log = log }

abbrev pub two_logs : ClosedView
two_logs = record { cores = with_log first_log ∷ with_log second_log ∷ []; rounds = rounds_log }

abbrev pub no_logs : ClosedView
no_logs = record { cores = []; rounds = [] }

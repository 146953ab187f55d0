-- The logs of a history: of each core the entries that touch it, with their positions.
use Rattle.std.specs.Prelude.{◌≡◌, ℕ, suc, ◌<◌, Bool, cond, IsTrue, List, [], ◌∷◌, ◌++◌, length, fold, slice_get, Some}
use Rattle.std.specs.Prelude.{All}
use Rattle.round_model.specs.declared.entry.Entry.{Entry}
use Rattle.round_model.specs.Entries.{touches}
use Rattle.round_model.specs.Kinds.{is_round}
use Rattle.core_state.specs.declared.logged.Logged.{Logged}
use Rattle.core_state.specs.Views.{ClosedView, CoreView}

-- the entry with its position
abbrev pub logged : ℕ → Entry → Logged
logged at e = record { at = at; entry = e }

-- the entries that pass, with their positions, where the first entry stands at that one
abbrev pub logged_from : (Entry → Bool) → ℕ → List Entry → List Logged
logged_from test at [] = []
logged_from test at (e ∷ es) = cond (test e) (logged at e ∷ []) [] ++ logged_from test (suc at) es

-- the entries of the history that touch the core
abbrev pub log_of : ℕ → List Entry → List Logged
log_of c history = logged_from (touches c) 0 history

-- the rounds that began in it
abbrev pub round_log : List Entry → List Logged
round_log history = logged_from is_round 0 history

-- the position behind the last entry of a log, and that one where the log is empty
abbrev pub after_last : ℕ → List Logged → ℕ
after_last start log = fold (λ _ (l : Logged). suc l.at) start log

-- the logs are those of this history, and each core that its entries touch is there
pub record LogsOf (history : List Entry) (closed : ClosedView) : Type 0 where
  pub cores : (c : ℕ) (y : CoreView) → slice_get closed.cores c ≡ Some y → y.log ≡ log_of c history
  pub rounds : closed.rounds ≡ round_log history
  pub there : All (λ (e : Entry). (c : ℕ) → IsTrue (touches c e) → c < length closed.cores) history

-- the logs are those of one history
abbrev pub AreLogsOfOne : ClosedView → Type 0
AreLogsOfOne closed = (history : List Entry) × LogsOf history closed

-- The logs of a table: one of each core, and behind them that of the rounds.
use Rattle.std.specs.Prelude.{◌≡◌, ℕ, ◌<◌, ◌≤◌, ◌==◌, Bool, cond, List, drop, IsFalse}
use mathlib.Core.Option.{some}
use lib.ListN.{get_elem?}
use Rattle.round_model.specs.declared.entry.Entry.{Entry}
use Rattle.round_model.specs.Entries.{acts, touches}
use Rattle.round_model.specs.Kinds.{is_round}
use Rattle.round_model.specs.Reads.{round_start}
use Rattle.core_state.specs.declared.logged.Logged.{Logged}
use Rattle.core_state.specs.Logs.{logged_from}

-- the log of the rounds as a contract sees it: its entries, and for how many it has room
pub record RoundLogView : Type 0 where
  pub entries : List Logged
  pub room : ℕ

-- whether the entry stands in the log of that number: below n that of a core, at n that of the rounds
abbrev pub stands_in : (n c : ℕ) → Entry → Bool
stands_in n c e = cond (c == n) (is_round e) (touches c e)

-- the log of that number after a history
abbrev pub log_at : (n c : ℕ) → List Entry → List Logged
log_at n c history = logged_from (stands_in n c) 0 history

-- the core's own entries of the open round, with their positions
abbrev pub own_log : ℕ → List Entry → List Logged
own_log a history = logged_from (acts a) (round_start history) (drop (round_start history) history)

-- no entry from the one position up to the other passes
abbrev pub NonePass : (Entry → Bool) → List Entry → (first behind : ℕ) → Type 0
NonePass test history first behind =
    (k : ℕ) (e : Entry) → first ≤ k → k < behind → get_elem? history k ≡ some e → IsFalse (test e)

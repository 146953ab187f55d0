-- Words that only serve the code: what a cursor finds in a log, and where it stands then.
use Rattle.std.specs.Prelude.{ℕ, ◌+◌, ◌==◌, cond, None, Option, Some, option_map}
use Rattle.std.specs.Borrow.{Bor}
use Rattle.round_model.specs.declared.entry.Entry.{Entry}
use Rattle.core_state.specs.declared.logged.Logged.{Logged}

-- the entry, if its position is that one
abbrev pub entry_there : ℕ → Option Logged → Option Entry
entry_there at None = None
entry_there at (Some l) = cond (l.at == at) (Some l.entry) None

-- the cursor passes the entry that was found
abbrev pub moved : ℕ → Option Entry → ℕ
moved cursor None = cursor
moved cursor (Some e) = cursor + 1

-- the entry that is lent
abbrev pub lent : Option (Bor Entry) → Option Entry
lent found = option_map (λ entry. entry.now) found

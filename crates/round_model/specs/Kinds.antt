-- The kinds of entries.
use Rattle.std.specs.Prelude.{Bool, true, false}
use Rattle.round_model.specs.declared.entry.Entry.{Entry}
use Rattle.round_model.specs.Entries.{EntryKind, enter, fail, parts_of, pass, round, steal, wake, work}

-- whether two kinds are one
abbrev pub same_kind : EntryKind → EntryKind → Bool
same_kind round round = true
same_kind enter enter = true
same_kind wake wake = true
same_kind work work = true
same_kind steal steal = true
same_kind fail fail = true
same_kind pass pass = true
same_kind one other = false

-- whether the entry is of this kind
abbrev pub is_of : EntryKind → Entry → Bool
is_of kind e = same_kind kind (parts_of e).kind

abbrev pub is_round : Entry → Bool
is_round e = is_of round e

abbrev pub is_work : Entry → Bool
is_work e = is_of work e

abbrev pub is_steal : Entry → Bool
is_steal e = is_of steal e

abbrev pub is_fail : Entry → Bool
is_fail e = is_of fail e

-- whether the kind is an attempt: a steal, a fail or a pass
abbrev pub is_attempt_kind : EntryKind → Bool
is_attempt_kind steal = true
is_attempt_kind fail = true
is_attempt_kind pass = true
is_attempt_kind kind = false

abbrev pub is_attempt : Entry → Bool
is_attempt e = is_attempt_kind (parts_of e).kind

-- Who acts in an entry, which cores it touches, and what it says of threads.
use Rattle.std.specs.Prelude.{Bool, List, None, Option, Some, [], false, ℕ, ◌==◌, ◌||◌}
use Rattle.round_model.specs.declared.entry.Did.{Did}
use Rattle.round_model.specs.declared.entry.Did.TheVariants as did
use Rattle.round_model.specs.declared.entry.Entry.{Entry}
use Rattle.round_model.specs.declared.entry.Entry.TheVariants as entry

-- the kinds of entries
pub data EntryKind : Type 0 where
  round : EntryKind
  enter : EntryKind
  wake : EntryKind
  work : EntryKind
  steal : EntryKind
  fail : EntryKind
  pass : EntryKind

-- What each entry has: its kind, the core that acts in it, and the positions that this core read. None acts where a
-- round begins, and nothing is read there or in a unit of work.
pub record EntryParts : Type 0 where
  pub kind : EntryKind
  pub core : Option ℕ
  pub reads : List ℕ

abbrev pub parts_of : Entry → EntryParts
parts_of (entry.Round number) = record { kind = round; core = None; reads = [] }
parts_of (entry.Enter thread by at reads) = record { kind = enter; core = Some by; reads = reads }
parts_of (entry.Wake thread by at reads) = record { kind = wake; core = Some by; reads = reads }
parts_of (entry.Work by what) = record { kind = work; core = Some by; reads = [] }
parts_of (entry.Steal by from threads reads) = record { kind = steal; core = Some by; reads = reads }
parts_of (entry.Fail by from reads) = record { kind = fail; core = Some by; reads = reads }
parts_of (entry.Pass by reads) = record { kind = pass; core = Some by; reads = reads }

-- the core that acts in the entry
abbrev pub acting_core : Entry → Option ℕ
acting_core e = (parts_of e).core

-- the reads of the entry
abbrev pub reads_of : Entry → List ℕ
reads_of e = (parts_of e).reads

-- whether there is a core, and it is this one
abbrev pub is_core : ℕ → Option ℕ → Bool
is_core c None = false
is_core c (Some by) = by == c

-- whether the core acts in the entry
unfoldable pub acts : ℕ → Entry → Bool
acts c e = is_core c (acting_core e)

-- whether the entry touches the core
unfoldable pub touches : ℕ → Entry → Bool
touches c (entry.Enter thread by at reads) = at == c
touches c (entry.Wake thread by at reads) = (by == c) || (at == c)
touches c (entry.Steal by from threads reads) = (by == c) || (from == c)
touches c (entry.Fail by from reads) = (by == c) || (from == c)
touches c e = is_core c (acting_core e)

-- whether the thread enters in the entry
abbrev pub lets_in : ℕ → Entry → Bool
lets_in id (entry.Enter thread by at reads) = thread == id
lets_in id e = false

-- whether the word says that the thread ended
abbrev pub is_ended : ℕ → Did → Bool
is_ended id did.Nothing = false
is_ended id (did.Kept thread) = false
is_ended id (did.Queued thread) = false
is_ended id (did.Blocked thread) = false
is_ended id (did.Ended thread) = thread == id

-- whether the thread ends in the entry
abbrev pub ends : ℕ → Entry → Bool
ends id (entry.Work by what) = is_ended id what
ends id e = false

-- the threads that are moved by the entry, in the order of their moves
abbrev pub threads_moved : Entry → List ℕ
threads_moved (entry.Steal by from threads reads) = threads
threads_moved e = []

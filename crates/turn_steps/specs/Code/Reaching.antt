-- What is counted of a turn, as the code does it. No promise rests on this.
use Rattle.std.specs.Prelude.{ℕ, Bool, true, false, Option, Some, None}
use Rattle.round_model.specs.declared.entry.Did.{Did}
use Rattle.round_model.specs.declared.entry.Did.TheVariants as did
use Rattle.turn_steps.specs.declared.reached.Reached.{Reached}
use Rattle.turn_steps.specs.declared.reached.Reached.TheVariants as reached

-- how many entries were told behind the threads
abbrev pub entries_in : Reached → ℕ
entries_in reached.Threads = 0
entries_in reached.NothingDue = 0
entries_in (reached.Worked did) = 1
entries_in (reached.Looked did look) = 1
entries_in (reached.Acted did look) = 2

-- the thread that ended by this word
abbrev pub ended_by : Did → Option ℕ
ended_by did.Nothing = None
ended_by (did.Kept thread) = None
ended_by (did.Queued thread) = None
ended_by (did.Blocked thread) = None
ended_by (did.Ended thread) = Some thread

-- the thread that ended in the unit that was told
abbrev pub ended_in : Reached → Option ℕ
ended_in reached.Threads = None
ended_in reached.NothingDue = None
ended_in (reached.Worked did) = ended_by did
ended_in (reached.Looked did look) = ended_by did
ended_in (reached.Acted did look) = ended_by did

-- whether threads may still wake
abbrev pub may_wake_in : Reached → Option (Unit {0})
may_wake_in reached.Threads = Some tt
may_wake_in reached.NothingDue = None
may_wake_in (reached.Worked did) = None
may_wake_in (reached.Looked did look) = None
may_wake_in (reached.Acted did look) = None

-- whether the unit was run
abbrev pub has_worked_in : Reached → Bool
has_worked_in reached.Threads = false
has_worked_in reached.NothingDue = false
has_worked_in (reached.Worked did) = true
has_worked_in (reached.Looked did look) = true
has_worked_in (reached.Acted did look) = true

-- whether the attempt was made
abbrev pub has_acted_in : Reached → Bool
has_acted_in reached.Threads = false
has_acted_in reached.NothingDue = false
has_acted_in (reached.Worked did) = false
has_acted_in (reached.Looked did look) = false
has_acted_in (reached.Acted did look) = true

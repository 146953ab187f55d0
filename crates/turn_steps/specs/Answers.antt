-- What a turn was told, and what it may be told next.
use Rattle.std.specs.Prelude.{◌≡◌, suc, ◌<◌, ◌⊎◌, Bool, true, false, List, ◌++◌, filter, replicate}
use Rattle.round_model.specs.declared.entry.Did.{Did}
use Rattle.select_phase.specs.declared.looks.Look.{Look}
use Rattle.turn_steps.specs.declared.asking.Ask.{Ask}
use Rattle.turn_steps.specs.declared.asking.Ask.TheVariants as ask
use Rattle.turn_steps.specs.declared.asking.Told.{Told}
use Rattle.turn_steps.specs.declared.asking.Told.TheVariants as told
use Rattle.turn_steps.specs.declared.reached.Reached.TheVariants as reached
use Rattle.turn_steps.specs.Reaches.{told_behind, with_attempt, with_look}
use Rattle.turn_steps.specs.States.{TurnState}

-- all that the turn was told, in its order
abbrev pub told_so_far : TurnState → List Told
told_so_far t = replicate t.arrived told.Arrived ++ (replicate t.woke told.Woke ++ told_behind t.reached)

-- whether what was told drew an entry
abbrev pub has_entry : Told → Bool
has_entry told.Arrived = true
has_entry told.Woke = true
has_entry told.NothingDue = false
has_entry (told.Worked did) = true
has_entry (told.Looked look) = false
has_entry told.Acted = true

-- what was told of entries
abbrev pub drawn : TurnState → List Told
drawn t = filter has_entry (told_so_far t)

-- what may come of that which a turn asks
abbrev pub Answers : Ask → Told → Type 0
Answers (ask.Arrive thread) answer = answer ≡ told.Arrived
Answers ask.Wake answer = (answer ≡ told.Woke) ⊎ (answer ≡ told.NothingDue)
Answers ask.Work answer = (did : Did) × (answer ≡ told.Worked did)
Answers ask.Look answer = (look : Look) × (answer ≡ told.Looked look)
Answers (ask.Act look) answer = answer ≡ told.Acted
Answers ask.Over answer = ⊥

-- the turn may be told this next
abbrev pub Awaits : TurnState → Told → Type 0
Awaits t told.Arrived = (t.reached ≡ reached.Threads) × (t.arrived < t.entering)
Awaits t told.Woke = (t.reached ≡ reached.Threads) × (t.arrived ≡ t.entering)
Awaits t told.NothingDue = (t.reached ≡ reached.Threads) × (t.arrived ≡ t.entering)
Awaits t (told.Worked did) = t.reached ≡ reached.NothingDue
Awaits t (told.Looked look) = (did : Did) × (t.reached ≡ reached.Worked did)
Awaits t told.Acted = (did : Did) × (look : Look) × (t.reached ≡ reached.Looked did look)

-- the turn once it was told this
abbrev pub with_told : Told → TurnState → TurnState
with_told told.Arrived t = record t { arrived = suc t.arrived }
with_told told.Woke t = record t { woke = suc t.woke }
with_told told.NothingDue t = record t { reached = reached.NothingDue }
with_told (told.Worked did) t = record t { reached = reached.Worked did }
with_told (told.Looked look) t = record t { reached = with_look look t.reached }
with_told told.Acted t = record t { reached = with_attempt t.reached }

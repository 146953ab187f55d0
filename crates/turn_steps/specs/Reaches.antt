-- What was told behind the threads.
use Rattle.std.specs.Prelude.{List, [], ◌∷◌, Option, Some, None}
use Rattle.round_model.specs.declared.entry.Did.{Did}
use Rattle.select_phase.specs.declared.looks.Look.{Look}
use Rattle.turn_steps.specs.declared.asking.Told.{Told}
use Rattle.turn_steps.specs.declared.asking.Told.TheVariants as told
use Rattle.turn_steps.specs.declared.reached.Reached.{Reached}
use Rattle.turn_steps.specs.declared.reached.Reached.TheVariants as reached

-- it was told that nothing is due
abbrev pub IsBehindThreads : Reached → Type 0
IsBehindThreads reached.Threads = ⊥
IsBehindThreads reached.NothingDue = Unit {0}
IsBehindThreads (reached.Worked did) = Unit {0}
IsBehindThreads (reached.Looked did look) = Unit {0}
IsBehindThreads (reached.Acted did look) = Unit {0}

-- the attempt was made, which is the last that a turn asks
abbrev pub IsOver : Reached → Type 0
IsOver reached.Threads = ⊥
IsOver reached.NothingDue = ⊥
IsOver (reached.Worked did) = ⊥
IsOver (reached.Looked did look) = ⊥
IsOver (reached.Acted did look) = Unit {0}

-- the answers, in their order
abbrev pub told_behind : Reached → List Told
told_behind reached.Threads = []
told_behind reached.NothingDue = told.NothingDue ∷ []
told_behind (reached.Worked did) = told.NothingDue ∷ told.Worked did ∷ []
told_behind (reached.Looked did look) = told.NothingDue ∷ told.Worked did ∷ told.Looked look ∷ []
told_behind (reached.Acted did look) =
    told.NothingDue ∷ told.Worked did ∷ told.Looked look ∷ told.Acted ∷ []

-- what became of the thread that ran in the unit, where that was told
abbrev pub did_in : Reached → Option Did
did_in reached.Threads = None
did_in reached.NothingDue = None
did_in (reached.Worked did) = Some did
did_in (reached.Looked did look) = Some did
did_in (reached.Acted did look) = Some did

-- the look, where one was told
abbrev pub look_in : Reached → Option Look
look_in reached.Threads = None
look_in reached.NothingDue = None
look_in (reached.Worked did) = None
look_in (reached.Looked did look) = Some look
look_in (reached.Acted did look) = Some look

-- with the look behind the unit
abbrev pub with_look : Look → Reached → Reached
with_look look reached.Threads = reached.Threads
with_look look reached.NothingDue = reached.NothingDue
with_look look (reached.Worked did) = reached.Looked did look
with_look look (reached.Looked did earlier) = reached.Looked did earlier
with_look look (reached.Acted did earlier) = reached.Acted did earlier

-- with the attempt behind the look
abbrev pub with_attempt : Reached → Reached
with_attempt reached.Threads = reached.Threads
with_attempt reached.NothingDue = reached.NothingDue
with_attempt (reached.Worked did) = reached.Worked did
with_attempt (reached.Looked did look) = reached.Acted did look
with_attempt (reached.Acted did look) = reached.Acted did look

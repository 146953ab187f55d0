-- The next step of a core of a history in memory, and what its entry says.
use Rattle.std.specs.Prelude.{◌≡◌, ℕ, List, Option, Some, None}
use Rattle.round_model.specs.declared.entry.Did.{Did}
use Rattle.round_model.specs.declared.entry.Entry.{Entry}
use Rattle.round_model.specs.declared.entry.Entry.TheVariants as entry
use Rattle.serial_steps.specs.declared.turns.NextStep.{NextStep}
use Rattle.serial_steps.specs.declared.turns.NextStep.TheVariants as next
use Rattle.serial_steps.specs.Serial.{SerialState, step_of}
use Rattle.serial_steps.specs.Turns.{with_step}
use Rattle.steal_phase.specs.declared.outcome.Outcome.{Outcome}
use Rattle.steal_phase.specs.declared.outcome.Outcome.TheVariants as outcome
use Rattle.turn_tests.specs.declared.memory_calls.MemoryCalls.{MemoryCalls}
use Rattle.turn_tests.specs.Memory.{core_of, fresh_of, history_of, meaning_in_memory, plan_of}

-- the moment of serial play in which each core keeps that look or none
abbrev pub moment_of : MemoryCalls → Option (List ℕ) → SerialState
moment_of it look = record { history = history_of it; looks = λ c. look }

-- the step is the one of serial play
abbrev pub IsNextStep : MemoryCalls → Option (List ℕ) → NextStep → Type 0
IsNextStep it look step = step_of (meaning_in_memory it) (plan_of it) (moment_of it look) (core_of it)
    ≡ with_step (moment_of it look) (core_of it) (fresh_of (plan_of it) (history_of it)) step

abbrev pub wake_or_none : Entry → Option Entry
wake_or_none (entry.Wake thread by at reads) = Some (entry.Wake thread by at reads)
wake_or_none e = None

-- the entry by which a thread wakes
abbrev pub woken_in : NextStep → Option Entry
woken_in (next.Adds e) = wake_or_none e
woken_in next.Looks = None
woken_in next.Over = None

abbrev pub did_or_none : Entry → Option Did
did_or_none (entry.Work by what) = Some what
did_or_none e = None

-- what became of the thread that ran
abbrev pub did_in : NextStep → Option Did
did_in (next.Adds e) = did_or_none e
did_in next.Looks = None
did_in next.Over = None

-- what an attempt came to
abbrev pub outcome_in : ℕ → Entry → Outcome
outcome_in at (entry.Steal by from threads reads) = outcome.Stole at threads
outcome_in at (entry.Fail by from reads) = outcome.Failed at
outcome_in at e = outcome.Passed at

-- The next step of a core in serial play, as it is computed.
use Rattle.std.specs.Prelude.{◌≡◌, ℕ, ◌==◌, cond, List, [], ◌∷◌, Option, Some, IsNone}
use Rattle.policy_tree.specs.Meaning.{Meaning, PlaceTree, here, least}
use Rattle.round_model.specs.declared.entry.Did.{Did}
use Rattle.round_model.specs.declared.entry.Entry.{Entry}
use Rattle.round_model.specs.declared.entry.Entry.TheVariants as entry
use Rattle.round_model.specs.declared.plan.Plan.{Plan}
use Rattle.round_model.specs.After.{after, round_of}
use Rattle.round_model.specs.Entries.{acting_core}
use Rattle.round_model.specs.FreshReads.{fresh_reads, placement_reads}
use Rattle.round_model.specs.Legal.{LegalNext}
use Rattle.round_model.specs.Scenes.{own_entries, scene_of, waking_next}
use Rattle.serial_steps.specs.declared.turns.NextStep.{NextStep}
use Rattle.serial_steps.specs.declared.turns.NextStep.TheVariants as next
use Rattle.serial_steps.specs.TurnSteps.{late_step}
use Rattle.serial_steps.specs.Serial.{SerialState, answered, step_of, with_entry}

-- what the core reads to place a thread, where it would read this of all cores
abbrev pub placement_by : PlaceTree → List ℕ → List ℕ
placement_by here fresh = []
placement_by (least e) fresh = fresh

-- no thread is left that the core is to wake
abbrev pub HasWoken : Meaning → Plan → List Entry → ℕ → Type 0
HasWoken p plan history a = IsNone (waking_next (round_of history) (after p plan history a))

-- the unit, with the first word that may be said of it
abbrev pub step_of_dids : ℕ → List Did → NextStep
step_of_dids a [] = next.Over
step_of_dids a (d ∷ ds) = next.Adds (entry.Work a d)

-- the play after a step of the core, which reads this where it looks
abbrev pub with_step : SerialState → ℕ → List ℕ → NextStep → SerialState
with_step play a fresh (next.Adds e) = with_entry play e
with_step play a fresh next.Looks = record play { looks = λ c. cond (c == a) (Some fresh) (play.looks c) }
with_step play a fresh next.Over = play

-- after these looks, and with these reads just now, the step is the one of serial play
abbrev pub IsStepOf : Meaning → Plan → List Entry → ℕ → List ℕ → Option (List ℕ) → NextStep → Type 0
IsStepOf p plan history a fresh look step = (looks : ℕ → Option (List ℕ)) →
    fresh ≡ fresh_reads plan history (scene_of p plan history a) → looks a ≡ look →
    step_of p plan (record { history = history; looks = looks }) a
    ≡ with_step (record { history = history; looks = looks }) a fresh step

-- the same of a core that has no thread left to let in or to wake
abbrev pub IsLateStepOf : Meaning → Plan → List Entry → ℕ → Option (List ℕ) → NextStep → Type 0
IsLateStepOf p plan history a look step = (looks : ℕ → Option (List ℕ)) → looks a ≡ look →
    answered p plan (record { history = history; looks = looks }) (scene_of p plan history a) a
    (placement_reads p.place plan history (scene_of p plan history a)) (late_step (own_entries history a) (looks a))
    ≡ with_step (record { history = history; looks = looks }) a
    (fresh_reads plan history (scene_of p plan history a)) step

-- what the step adds is an entry of the core
abbrev pub ActsBy : ℕ → NextStep → Type 0
ActsBy a (next.Adds e) = acting_core e ≡ Some a
ActsBy a next.Looks = Unit {0}
ActsBy a next.Over = Unit {0}

-- what the step adds is legal
abbrev pub MayAdd : Meaning → Plan → List Entry → NextStep → Type 0
MayAdd p plan history (next.Adds e) = LegalNext p plan history e
MayAdd p plan history next.Looks = Unit {0}
MayAdd p plan history next.Over = Unit {0}

-- How many entries the rounds of a plan may have, and plans whose limit has room for them.
use Rattle.std.specs.Prelude.{◌+◌, ◌*◌, ◌≤◌, List, length}
use Rattle.policy_tree.specs.Meaning.{Meaning}
use Rattle.policy_eval.specs.Obligations.{MeetsHandlerObligations}
use Rattle.round_model.specs.declared.entry.Entry.{Entry}
use Rattle.round_model.specs.declared.plan.Plan.{Plan}
use Rattle.round_model.specs.Fits.{Fits}
use Rattle.round_model.specs.Legal.{Legal, rounds_begun}
use Rattle.round_model.specs.Owed.{owed_total}
use Rattle.serial_steps.specs.SerialEnds.{IsFull, most_entries}

-- the limit has room for all rounds of the plan
abbrev pub HasRoomForRounds : Plan → Type 0
HasRoomForRounds plan = plan.rounds * most_entries plan ≤ plan.limit

-- a legal history has no more entries than its rounds may have, those counted that cores still owe
abbrev pub EntryBoundLaw : Type 0
EntryBoundLaw = (p : Meaning) (plan : Plan) (history : List Entry) → Fits p plan → MeetsHandlerObligations p
    → Legal p plan history → length history + owed_total p plan history ≤ rounds_begun history * most_entries plan

-- where the limit has room for all rounds, none comes due in a legal history that might not fit
abbrev pub RoomSufficesLaw : Type 0
RoomSufficesLaw = (p : Meaning) (plan : Plan) (history : List Entry) → Fits p plan → MeetsHandlerObligations p
    → HasRoomForRounds plan → Legal p plan history → ¬ IsFull plan history

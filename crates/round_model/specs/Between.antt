-- What stays between two positions of a history, and what the open round adds to what was.
use Rattle.std.specs.Prelude.{◌≡◌, ℕ, ◌<◌, ◌≤◌, ◌||◌, List, length, take, IsFalse}
use Rattle.std.specs.List.{list_any}
use mathlib.Core.Option.{some}
use lib.ListN.{get_elem?}
use Rattle.policy_tree.specs.Meaning.{Meaning}
use Rattle.round_model.specs.declared.entry.Entry.{Entry}
use Rattle.round_model.specs.declared.plan.Plan.{Plan}
use Rattle.round_model.specs.declared.plan.Planned.{Planned}
use Rattle.round_model.specs.After.{after}
use Rattle.round_model.specs.Cores.{core_numbers}
use Rattle.round_model.specs.Entries.{ends, touches}
use Rattle.round_model.specs.Legal.{Legal, has_ended}
use Rattle.round_model.specs.Reads.{round_start}
use Rattle.round_model.specs.Scenes.{own_entries}

-- no entry from the first position on, up to the one behind, touches the core
abbrev pub IsLeftAlone : List Entry → ℕ → (first behind : ℕ) → Type 0
IsLeftAlone history c first behind = (k : ℕ) (e : Entry) → first ≤ k → k < behind
    → get_elem? history k ≡ some e → IsFalse (touches c e)

-- a core is the same at two positions between which no entry touches it
abbrev pub SameCoreLaw : Type 0
SameCoreLaw = (p : Meaning) (plan : Plan) (history : List Entry) (c first behind : ℕ) → first ≤ behind
    → behind ≤ length history → IsLeftAlone history c first behind
    → after p plan (take behind history) c ≡ after p plan (take first history) c

-- a thread has ended exactly where it had as the open round began, or ends in what some core has done in it
abbrev pub HasEndedLaw : Type 0
HasEndedLaw = (p : Meaning) (plan : Plan) (history : List Entry) (t : Planned) → Legal p plan history
    → has_ended history t ≡ (has_ended (take (round_start history) history) t
    || list_any (λ c. list_any (ends t.id) (own_entries history c)) (core_numbers plan))

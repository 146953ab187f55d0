-- Legal and whole histories.
use Rattle.std.specs.Prelude.{◌≡◌, ℕ, ◌+◌, ◌<◌, ◌==◌, nat_lt, Bool, ◌&&◌, ◌||◌, not, List, take, count_by, IsTrue}
use Rattle.std.specs.Prelude.{IsFalse}
use Rattle.std.specs.List.{list_all, list_any}
use mathlib.Core.Option.{some}
use lib.ListN.{get_elem?}
use Rattle.policy_tree.specs.Meaning.{Meaning}
use Rattle.round_model.specs.declared.entry.Entry.{Entry}
use Rattle.round_model.specs.declared.entry.Entry.TheVariants as entry
use Rattle.round_model.specs.declared.plan.Plan.{Plan}
use Rattle.round_model.specs.declared.plan.Planned.{Planned}
use Rattle.round_model.specs.Cores.{core_numbers}
use Rattle.round_model.specs.Entries.{ends}
use Rattle.round_model.specs.Kinds.{is_round}
use Rattle.round_model.specs.Rows.{Row}
use Rattle.round_model.specs.Scenes.{has_attempted, own_entries, scene_of}

-- how many rounds have begun
abbrev pub rounds_begun : List Entry → ℕ
rounds_begun history = count_by is_round history

-- whether each core has made its attempt of the last round. Before the first round nothing is open
unfoldable pub is_complete : Plan → List Entry → Bool
is_complete plan history = rounds_begun history == 0
    || list_all (λ c. has_attempted (own_entries history c)) (core_numbers plan)

-- whether the thread has ended
abbrev pub has_ended : List Entry → Planned → Bool
has_ended history t = list_any (ends t.id) history

-- whether a next round is due: fewer have begun than the plan has, and some thread of the plan hasn't ended
unfoldable pub is_due : Plan → List Entry → Bool
is_due plan history = nat_lt (rounds_begun history) plan.rounds
    && list_any (λ t. not (has_ended history t)) plan.threads

abbrev pub IsComplete : Plan → List Entry → Type 0
IsComplete plan history = IsTrue (is_complete plan history)

abbrev pub IsDue : Plan → List Entry → Type 0
IsDue plan history = IsTrue (is_due plan history)

-- the round is the next
pub record LegalRound (plan : Plan) (history : List Entry) (number : ℕ) : Type 0 where
  pub complete : IsComplete plan history
  pub due : IsDue plan history
  pub next : number ≡ rounds_begun history + 1

-- a round is open, and the entry is legal for its acting core
pub record LegalInRound (p : Meaning) (plan : Plan) (history : List Entry) (by : ℕ) (e : Entry) : Type 0 where
  pub begun : 0 < rounds_begun history
  pub row : Row p plan (scene_of p plan history by) e

-- the entry is legal after the history
unfoldable pub LegalNext : Meaning → Plan → List Entry → Entry → Type 0
LegalNext p plan history (entry.Round number) = LegalRound plan history number
LegalNext p plan history (entry.Enter thread by at reads) =
    LegalInRound p plan history by (entry.Enter thread by at reads)
LegalNext p plan history (entry.Wake thread by at reads) =
    LegalInRound p plan history by (entry.Wake thread by at reads)
LegalNext p plan history (entry.Work by did) = LegalInRound p plan history by (entry.Work by did)
LegalNext p plan history (entry.Steal by from threads reads) =
    LegalInRound p plan history by (entry.Steal by from threads reads)
LegalNext p plan history (entry.Fail by from reads) =
    LegalInRound p plan history by (entry.Fail by from reads)
LegalNext p plan history (entry.Pass by reads) = LegalInRound p plan history by (entry.Pass by reads)

-- each entry is legal after those before it
abbrev pub Legal : Meaning → Plan → List Entry → Type 0
Legal p plan history = (k : ℕ) (e : Entry) → get_elem? history k ≡ some e →
    LegalNext p plan (take k history) e

-- a legal history that stops where nothing is left to do
pub record Whole (p : Meaning) (plan : Plan) (history : List Entry) : Type 0 where
  pub legal : Legal p plan history
  pub complete : IsComplete plan history
  pub finished : IsFalse (is_due plan history)

-- What a view tells of the history of all entries.
use Rattle.std.specs.Prelude.{◌≡◌, ℕ, ◌+◌, ◌<◌, ◌≤◌, List, [], ◌∷◌, map, length, take, IsNone, IsTrue, Bool}
use mathlib.Core.Option.{some}
use lib.ListN.{get_elem?}
use Rattle.policy_tree.specs.Meaning.{Meaning}
use Rattle.policy_eval.specs.Obligations.{MeetsHandlerObligations}
use Rattle.round_model.specs.declared.entry.Entry.{Entry}
use Rattle.round_model.specs.declared.plan.Plan.{Plan}
use Rattle.round_model.specs.After.{after, round_of}
use Rattle.round_model.specs.Entries.{touches}
use Rattle.round_model.specs.Fits.{Fits}
use Rattle.round_model.specs.Legal.{Legal, LegalRound, rounds_begun}
use Rattle.round_model.specs.Limits.{IsWithinLimits}
use Rattle.round_model.specs.Owed.{owed_total}
use Rattle.round_model.specs.Reads.{round_start, value_read}
use Rattle.round_model.specs.Rows.{Row}
use Rattle.round_model.specs.Scenes.{Scene, waking_next}
use Rattle.serial_steps.specs.SerialEnds.{RoundFits}
use Rattle.core_state.specs.declared.logged.Logged.{Logged}
use Rattle.core_state.specs.Views.{CoreView}
use Rattle.core_table.specs.declared.views.HeldCore.{HeldCore}
use Rattle.core_table.specs.declared.views.Note.{Note}
use Rattle.core_table.specs.declared.views.Role.{Role}
use Rattle.core_table.specs.declared.views.Role.TheVariants as role
use Rattle.core_table.specs.declared.views.Turn.{Turn}
use Rattle.core_table.specs.declared.views.Turn.TheVariants as turn
use Rattle.core_table.specs.declared.views.View.{View}
use Rattle.core_table.specs.Logs.{log_at, own_log}
use Rattle.core_table.specs.Views.{meaning_in}

-- it holds of each item of the list
abbrev pub Each : {X : Type 0} → (X → Type 0) → List X → Type 0
Each {X} P xs = (i : ℕ) (x : X) → get_elem? xs i ≡ some x → P x

-- a note is of the open round, and says what the core was like at its position
pub record IsTrueNote (p : Meaning) (plan : Plan) (history : List Entry) (x : Note) : Type 0 where
  pub core : x.core < plan.cores
  pub in_round : round_start history ≤ x.at
  pub within : x.at ≤ length history
  pub seen : x.seen ≡ value_read p plan history x.core x.at

-- the core is the one that the history leaves, with its log. At the number of cores it is the log of the rounds
pub record IsCoreNow (p : Meaning) (plan : Plan) (history : List Entry) (c : ℕ) (y : CoreView) : Type 0 where
  pub core : y.core ≡ after p plan history c
  pub log : y.log ≡ log_at plan.cores c history
  pub log_room : plan.limit ≤ y.log_room
  pub order : c < plan.cores → y.order ≡ p.elect
  pub room : c < plan.cores → y.room ≡ length plan.threads
  pub blocked_room : c < plan.cores → y.blocked_room ≡ length plan.threads

-- so it is of what is held
pub record IsHeldNow (p : Meaning) (plan : Plan) (history : List Entry) (x : HeldCore) : Type 0 where
  pub there : x.core ≤ plan.cores
  pub now : IsCoreNow p plan history x.core x.state

-- what the opening seat counts of a core's own entries of the open round
abbrev pub IsTrueTurn : List Entry → ℕ → Turn → Type 0
IsTrueTurn history c turn.Idle = own_log c history ≡ []
IsTrueTurn history c turn.Out = Unit {0}
IsTrueTurn history c (turn.Done own) = own_log c history ≡ own

-- what was merged is all up to the last Round, and each core is counted as it is
pub record IsTrueOpening (plan : Plan) (history merged : List Entry) (turns : List Turn) : Type 0 where
  pub is_merged : merged ≡ take (round_start history) history
  pub count : length turns ≡ plan.cores
  pub are_true : (c : ℕ) (t : Turn) → get_elem? turns c ≡ some t → IsTrueTurn history c t

-- a core's seat has all entries of its core in the open round. With the mark no thread of the core is due
pub record IsTrueCore (p : Meaning) (plan : Plan) (history : List Entry) (own : List Logged) (c : ℕ)
    (none_due : Bool) : Type 0 where
  pub there : c < plan.cores
  pub begun : 0 < rounds_begun history
  pub is_own : own ≡ own_log c history
  pub due : IsTrue none_due → IsNone (waking_next (round_of history) (after p plan history c))

abbrev pub IsTrueRole : Meaning → Plan → List Entry → List Logged → Role → Type 0
IsTrueRole p plan history own (role.Opening merged turns) = IsTrueOpening plan history merged turns
IsTrueRole p plan history own (role.Core c none_due) = IsTrueCore p plan history own c none_due
IsTrueRole p plan history own role.Spent = Unit {0}

-- the open round has that number, and that start
pub record IsDated (history : List Entry) (v : View) : Type 0 where
  pub round : v.round ≡ round_of history
  pub start : v.start ≡ round_start history

-- by all that the view has, this may be the history of all entries
pub record Agrees (v : View) (history : List Entry) : Type 0 where
  pub fits : Fits (meaning_in v) v.plan
  pub limits : IsWithinLimits v.plan
  pub handlers : MeetsHandlerObligations (meaning_in v)
  pub legal : Legal (meaning_in v) v.plan history
  pub reserve : length history + owed_total (meaning_in v) v.plan history ≤ v.plan.limit
  pub dated : IsDated history v
  pub role : IsTrueRole (meaning_in v) v.plan history v.own v.role
  pub notes : Each (IsTrueNote (meaning_in v) v.plan history) v.notes
  pub held : Each (IsHeldNow (meaning_in v) v.plan history) v.held

-- some history is one that the view agrees with
abbrev pub IsKnown : View → Type 0
IsKnown v = (history : List Entry) × Agrees v history

-- the core is among those that are held
pub record IsAmong (held : List HeldCore) (c : ℕ) : Type 0 where
  pub place : ℕ
  pub of : HeldCore
  pub there : get_elem? held place ≡ some of
  pub core : of.core ≡ c

-- a note says what is seen in the scene
pub record IsNoteOf (s : Scene) (x : Note) : Type 0 where
  pub in_round : s.start ≤ x.at
  pub before : x.at ≤ s.position
  pub seen : s.seen x.core x.at ≡ x.seen

-- the scene has all that the view of a core's seat has
pub record IsAsViewed (v : View) (s : Scene) : Type 0 where
  pub round : s.round ≡ v.round
  pub start : s.start ≡ v.start
  pub own : s.own ≡ map (λ (l : Logged). l.entry) v.own
  pub cores : Each (λ x. s.cores x.core ≡ x.state.core) v.held
  pub notes : Each (IsNoteOf s) v.notes

-- by the view alone the entry is legal next: it is so in every scene that has what the view has
abbrev pub IsLocalIn : View → Entry → Type 0
IsLocalIn v e = (s : Scene) → IsAsViewed v s → Row (meaning_in v) v.plan s e

-- the seat holds every core that the entry touches
abbrev pub HoldsTouched : View → Entry → Type 0
HoldsTouched v e = (c : ℕ) → c < v.plan.cores → IsTrue (touches c e) → IsAmong v.held c

-- the view is that of the opening seat
pub record IsOpening (v : View) : Type 0 where
  pub merged : List Entry
  pub turns : List Turn
  pub role : v.role ≡ role.Opening merged turns

-- the view is that of a seat of the core
pub record IsSeatOf (v : View) (c : ℕ) : Type 0 where
  pub none_due : Bool
  pub role : v.role ≡ role.Core c none_due

-- the core's seat isn't out
abbrev pub IsIn : Turn → Type 0
IsIn turn.Idle = Unit {0}
IsIn turn.Out = ⊥
IsIn (turn.Done own) = Unit {0}

-- the opening seat has every core's seat back
pub record HasAllBack (v : View) : Type 0 where
  pub merged : List Entry
  pub turns : List Turn
  pub role : v.role ≡ role.Opening merged turns
  pub back : (c : ℕ) (t : Turn) → get_elem? turns c ≡ some t → IsIn t

-- the round of that number is legal next, and all that it may add fits the limit
pub record IsNextRound (plan : Plan) (history : List Entry) (number : ℕ) : Type 0 where
  pub next : LegalRound plan history number
  pub room : RoundFits plan (length history)

-- by the view alone the round may begin
abbrev pub MayBeginRound : View → ℕ → Type 0
MayBeginRound v number = (history : List Entry) → Agrees v history → IsNextRound v.plan history number

-- the seat holds the log of the rounds, and nothing else
pub record HoldsRounds (v : View) : Type 0 where
  pub of : HeldCore
  pub held : v.held ≡ of ∷ []
  pub core : of.core ≡ v.plan.cores

-- the opening seat has given out no seat of the core in the open round
pub record HasIdle (v : View) (c : ℕ) : Type 0 where
  pub opening : IsOpening v
  pub idle : get_elem? opening.turns c ≡ some turn.Idle

-- the view is that of a core's seat that holds nothing
pub record IsFreeSeat (v : View) : Type 0 where
  pub core : ℕ
  pub of_core : IsSeatOf v core
  pub free : v.held ≡ []

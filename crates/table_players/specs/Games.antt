-- A table as it is played: its opening seat as it deals the cores' seats and takes them back, and a core's turn.
use Rattle.std.specs.Prelude.{◌≡◌, ◌==◌, ◌&&◌, ℕ, ◌+◌, ◌<◌, ◌≤◌, Bool, true, false, List, [], length, IsFalse, IsTrue}
use Rattle.std.specs.Prelude.{◌↔◌, slice_index_or}
use Rattle.std.specs.List.{list_any}
use mathlib.Core.Option.{some}
use lib.ListN.{get_elem?}
use Rattle.policy_tree.specs.Meaning.{meaning_of}
use Rattle.round_model.specs.declared.entry.Entry.{Entry}
use Rattle.round_model.specs.declared.plan.Planned.{Planned}
use Rattle.round_model.specs.Entries.{lets_in}
use Rattle.round_model.specs.Scenes.{has_attempted, has_worked, is_entering}
use Rattle.core_table.specs.declared.seat.Seat.{Seat}
use Rattle.core_table.specs.declared.seat.Table.{Table}
use Rattle.core_table.specs.declared.views.Role.TheVariants as role
use Rattle.core_table.specs.declared.views.Turn.{Turn}
use Rattle.core_table.specs.declared.views.Turn.TheVariants as turn
use Rattle.core_table.specs.declared.views.View.{View}
use Rattle.core_table.specs.Public.{IsOf, plan_of, policy_of, view_of}
use Rattle.core_table.specs.Told.{IsIn, IsSeatOf}
use Rattle.select_phase.specs.Seen.{AreLast, Looked}
use Rattle.steal_phase.specs.Attempts.{own_entries_in}
use Rattle.core_calls.specs.Steps.{HasLetAllIn}
use Rattle.table_players.specs.declared.game.Game.{Game}
use Rattle.table_players.specs.declared.players.Player.{Player}
use Rattle.table_players.specs.declared.players.Stage.{Stage}
use Rattle.table_players.specs.declared.players.Stage.TheVariants as stage
use Rattle.table_players.specs.Crowds.{IsCrowd, IsTried}

abbrev pub table_in : Game → Table
table_in g = g.table.now

-- the table was opened with such a policy and such a plan
pub record IsTable (t : Table) : Type 0 where
  pub policy : IsTried (meaning_of (policy_of t))
  pub plan : IsCrowd (plan_of t)

-- the opening seat in round 1, which holds nothing and counts the cores so
pub record IsHost (t : Table) (s : Seat) (turns : List Turn) : Type 0 where
  pub of : IsOf t s
  pub free : (view_of s).held ≡ []
  pub round : (view_of s).round ≡ 1
  pub merged : List Entry
  pub role : (view_of s).role ≡ role.Opening merged turns
  pub count : length turns ≡ (plan_of t).cores

-- the cores from that one on have had no seat in the round
pub record IsDealing (t : Table) (s : Seat) (from : ℕ) : Type 0 where
  pub turns : List Turn
  pub host : IsHost t s turns
  pub idle : (c : ℕ) → from ≤ c → c < (plan_of t).cores → get_elem? turns c ≡ some turn.Idle

-- the seats of the cores from that one on are back
pub record IsTaking (t : Table) (s : Seat) (from : ℕ) : Type 0 where
  pub turns : List Turn
  pub host : IsHost t s turns
  pub back : (c : ℕ) (u : Turn) → from ≤ c → get_elem? turns c ≡ some u → IsIn u

-- whether the core is to let the thread in in round 1
abbrev pub lets : ℕ → Planned → Bool
lets core t = (t.core == core) && (t.round == 1)

-- it is to let in none of these threads from the one place to the other
abbrev pub LetsNone : ℕ → List Planned → (from to : ℕ) → Type 0
LetsNone core threads from to = (k : ℕ) (d : Planned) → from ≤ k → k < to → k < length threads →
    IsFalse (lets core (slice_index_or threads k d))

-- the answer is yes exactly where that holds
abbrev pub IsWhether : Type 0 → Bool → Type 0
IsWhether P answer = IsTrue answer ↔ P

-- the next that it is to let in stands at that place
pub record LetsNext (core : ℕ) (threads : List Planned) (from at : ℕ) : Type 0 where
  pub behind : from ≤ at
  pub inside : at < length threads
  pub lets_it : (d : Planned) → IsTrue (lets core (slice_index_or threads at d))
  pub none_before : LetsNone core threads from at

-- the core has let in all that are before that place, and none behind it
pub record HasLetIn (v : View) (core place : ℕ) : Type 0 where
  pub passed : (k : ℕ) (d : Planned) → k < place → k < length v.plan.threads →
      IsFalse (is_entering 1 core (own_entries_in v) (slice_index_or v.plan.threads k d))
  pub ahead : (k : ℕ) → place ≤ k → k < length v.plan.threads → IsFalse (list_any (lets_in (k + 1)) (own_entries_in v))

-- whether the core has worked and made its attempt in the round
pub record HasDone (v : View) (worked attempted : Bool) : Type 0 where
  pub work : has_worked (own_entries_in v) ≡ worked
  pub attempt : has_attempted (own_entries_in v) ≡ attempted

-- what is known by what the core does next
abbrev pub IsStage : View → ℕ → Stage → Type 0
IsStage v core (stage.Entering place) = HasLetIn v core place × HasDone v false false
IsStage v core stage.Waking = HasLetAllIn v core × HasDone v false false
IsStage v core stage.Working = (v.role ≡ role.Core core true) × HasLetAllIn v core × HasDone v false false
IsStage v core stage.Looking = HasDone v true false
IsStage v core (stage.Attempting look) = (look.by ≡ core) × Looked v look × AreLast v look.reads × HasDone v true false
IsStage v core stage.Over = Unit {0}

-- the view is that of a core's seat in round 1, which holds nothing, and the core has come so far
pub record IsTurn (v : View) (core : ℕ) (now : Stage) : Type 0 where
  pub plan : IsCrowd v.plan
  pub there : core < v.plan.cores
  pub round : v.round ≡ 1
  pub of_core : IsSeatOf v core
  pub free : v.held ≡ []
  pub stage : IsStage v core now

-- so it is with a seat of the table
pub record IsAt (t : Table) (s : Seat) (core : ℕ) (now : Stage) : Type 0 where
  pub of : IsOf t s
  pub turn : IsTurn (view_of s) core now

-- the player plays that core of the table
pub record Plays (t : Table) (core : ℕ) (p : Player) : Type 0 where
  pub number : p.core ≡ core
  pub at : IsAt t p.seat p.core p.stage

-- the players play the cores of the table, from 0 on
abbrev pub PlayAll : Table → List Player → Type 0
PlayAll t players = (k : ℕ) (d : Player) → k < length players → Plays t k (slice_index_or players k d)

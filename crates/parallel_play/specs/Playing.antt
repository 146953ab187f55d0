-- What the opening seat has after some cores have played, and what is then counted.
use Rattle.std.specs.Prelude.{◌≡◌, ℕ, ◌+◌, ◌<◌, ◌≤◌, ◌||◌, List, [], drop, length, map, min, IsTrue}
use Rattle.std.specs.List.{list_any, sum_by}
use mathlib.Core.Option.{some}
use lib.ListN.{get_elem?}
use Rattle.sched_base.specs.declared.limits.TheConstants.{MAX_THREADS}
use Rattle.round_model.specs.declared.entry.Entry.{Entry}
use Rattle.round_model.specs.declared.plan.Plan.{Plan}
use Rattle.round_model.specs.Entries.{ends}
use Rattle.round_model.specs.Scenes.{has_attempted}
use Rattle.core_state.specs.declared.logged.Logged.{Logged}
use Rattle.core_table.specs.declared.views.Role.{Role}
use Rattle.core_table.specs.declared.views.Role.TheVariants as role
use Rattle.core_table.specs.declared.views.Turn.{Turn}
use Rattle.core_table.specs.declared.views.Turn.TheVariants as turn
use Rattle.core_table.specs.declared.views.View.{View}
use Rattle.core_table.specs.Plays.{Begins}
use Rattle.core_table.specs.Told.{IsFreeSeat, IsKnown, IsOpening}
use Rattle.core_table.specs.Views.{joining, leaving}
use Rattle.parallel_play.specs.declared.sums.Tally.{Tally}
use Rattle.parallel_play.specs.Tallies.{MAX_COUNT, flag_of}

-- in the open round each core from c on is still idle, and the opening seat holds nothing
pub record IdleFrom (c : ℕ) (v : View) : Type 0 where
  pub merged : List Entry
  pub turns : List Turn
  pub role : v.role ≡ role.Opening merged turns
  pub idle : (d : ℕ) (t : Turn) → get_elem? turns d ≡ some t → c ≤ d → t ≡ turn.Idle
  pub wide : length turns ≡ v.plan.cores
  pub begun : 0 < v.round
  pub free : v.held ≡ []

-- the seat of the core was split off
pub record Leaves (c : ℕ) (v w : View) : Type 0 where
  pub view : w ≡ leaving c v
  pub idle : IdleFrom (c + 1) w

-- the other seat may come back
pub record TakesBack (v other : View) : Type 0 where
  pub opening : IsOpening v
  pub free : IsFreeSeat other

-- it is back
pub record Joins (v other w : View) : Type 0 where
  pub view : w ≡ joining v other
  pub known : IsKnown w

abbrev pub turns_in : Role → List Turn
turns_in (role.Opening merged turns) = turns
turns_in (role.Core c none_due) = []
turns_in role.Spent = []

abbrev pub merged_in : Role → List Entry
merged_in (role.Opening merged turns) = merged
merged_in (role.Core c none_due) = []
merged_in role.Spent = []

-- what a seat brought back
abbrev pub log_in : Turn → List Logged
log_in turn.Idle = []
log_in turn.Out = []
log_in (turn.Done own) = own

abbrev pub entries_in : Turn → List Entry
entries_in t = map (λ (l : Logged). l.entry) (log_in t)

-- the core's turn is over
abbrev pub IsPlayed : Turn → Type 0
IsPlayed turn.Idle = ⊥
IsPlayed turn.Out = ⊥
IsPlayed (turn.Done own) = IsTrue (has_attempted (map (λ (l : Logged). l.entry) own))

-- how many entries these turns brought, and whether a thread ended in them
abbrev pub entries_of : List Turn → ℕ
entries_of turns = sum_by (λ (t : Turn). length (log_in t)) turns

-- the turns of the cores from c on are over, and are counted. Nothing else has changed
pub record Played (c : ℕ) (before after : Tally) (v w : View) : Type 0 where
  pub turns : List Turn
  pub role : w.role ≡ role.Opening (merged_in v.role) turns
  pub wide : length turns ≡ length (turns_in v.role)
  pub earlier : (d : ℕ) (t : Turn) → d < c → get_elem? turns d ≡ some t → get_elem? (turns_in v.role) d ≡ some t
  pub later : (d : ℕ) (t : Turn) → c ≤ d → get_elem? turns d ≡ some t → IsPlayed t
  pub entries : after.entries ≡ min (before.entries + entries_of (drop c turns)) MAX_COUNT
  pub ended : (id : ℕ) → id ≤ MAX_THREADS →
      flag_of after id ≡ (flag_of before id
      || list_any (λ (t : Turn). list_any (ends id) (entries_in t)) (drop c turns))
  pub rest : w ≡ record v { role = w.role }
  pub known : c < v.plan.cores → IsKnown w

-- the round of that number began, and all cores have played
pub record BeganAndPlayed (number : ℕ) (before after : Tally) (v w : View) : Type 0 where
  pub at : ℕ
  pub opened : View
  pub counted : Tally
  pub begins : Begins number v at opened
  pub more : counted.entries ≡ min (before.entries + 1) MAX_COUNT
  pub same : counted.ended ≡ before.ended
  pub played : Played 0 counted after opened w

-- the plan's cores from c on passed the gate in the round of that number
abbrev pub HavePassed : (Passed : ℕ → ℕ → Type 0) → Plan → (c round : ℕ) → Type 0
HavePassed Passed plan c round = (d : ℕ) → c ≤ d → d < plan.cores → Passed d round

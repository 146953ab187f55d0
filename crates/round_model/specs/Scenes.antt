-- What decides whether an entry of one core is legal next, and what that core owes.
use Rattle.std.specs.Prelude.{ℕ, ◌==◌, nat_le, not, ◌&&◌, Bool, List, filter, find, drop, length, Option}
use Rattle.std.specs.List.{list_any}
use Rattle.policy_tree.specs.Meaning.{Meaning}
use Rattle.round_model.specs.declared.entry.Entry.{Entry}
use Rattle.round_model.specs.declared.plan.Plan.{Plan}
use Rattle.round_model.specs.declared.plan.Planned.{Planned}
use Rattle.round_model.specs.declared.state.Blocked.{Blocked}
use Rattle.round_model.specs.declared.state.ModelCore.{ModelCore}
use Rattle.round_model.specs.declared.state.CountAndLoad.{CountAndLoad}
use Rattle.round_model.specs.After.{after, round_of}
use Rattle.round_model.specs.Cores.{Cores}
use Rattle.round_model.specs.Entries.{acts, lets_in}
use Rattle.round_model.specs.Kinds.{is_attempt, is_work}
use Rattle.round_model.specs.Reads.{round_start, value_read}

-- a moment of a history, as the acting core of the next entry needs it
pub record Scene : Type 0 where
  -- the number of the open round
  pub round : ℕ
  -- the position just after its Round
  pub start : ℕ
  -- the position of the next entry
  pub position : ℕ
  -- the acting core's own entries since the start
  pub own : List Entry
  -- the cores before the entry
  pub cores : Cores
  -- thread count and load of a core at a position
  pub seen : ℕ → ℕ → CountAndLoad

-- the core's own entries of the open round
abbrev pub own_entries : List Entry → ℕ → List Entry
own_entries history a = filter (acts a) (drop (round_start history) history)

-- the moment after a history, for the core a
unfoldable pub scene_of : Meaning → Plan → List Entry → ℕ → Scene
scene_of p plan history a = record {
  round = round_of history;
  start = round_start history;
  position = length history;
  own = own_entries history a;
  cores = after p plan history;
  seen = value_read p plan history;
}

-- whether the thread has yet to enter: by this core, in this round, and not among these entries
abbrev pub is_entering : ℕ → ℕ → List Entry → Planned → Bool
is_entering round a own t = (t.core == a) && (t.round == round) && not (list_any (lets_in t.id) own)

-- the thread of the plan that the core lets in next
unfoldable pub entering_next : Plan → ℕ → ℕ → List Entry → Option Planned
entering_next plan round a own = find (is_entering round a own) plan.threads

-- whether the thread may wake in the round
abbrev pub is_due_blocked : ℕ → Blocked → Bool
is_due_blocked round b = nat_le b.wake round

-- the blocked thread of the core that wakes next
unfoldable pub waking_next : ℕ → ModelCore → Option Blocked
waking_next round core = find (is_due_blocked round) core.blocked

-- whether the core has run its unit of the round
abbrev pub has_worked : List Entry → Bool
has_worked own = list_any is_work own

-- whether the core has made its attempt of the round
abbrev pub has_attempted : List Entry → Bool
has_attempted own = list_any is_attempt own

-- What opening takes, and what closing gives.
use Rattle.std.specs.Prelude.{◌≡◌, ℕ, ◌+◌, ◌<◌, ◌≤◌, List, [], length, slice_get, Some}
use mathlib.Core.Option.{some}
use lib.ListN.{get_elem?}
use Rattle.policy_tree.specs.Meaning.{Meaning}
use Rattle.round_model.specs.declared.entry.Entry.{Entry}
use Rattle.round_model.specs.declared.plan.Plan.{Plan}
use Rattle.round_model.specs.Cores.{opening_state}
use Rattle.core_state.specs.Logs.{LogsOf}
use Rattle.core_state.specs.Views.{ClosedView, CoreView}
use Rattle.core_table.specs.declared.slots.Slot.{Slot}
use Rattle.core_table.specs.declared.slots.Slot.TheVariants as slot
use Rattle.core_table.specs.declared.views.View.{View}
use Rattle.core_table.specs.Views.{meaning_in, slot_of}
use Rattle.core_table.specs.Told.{Agrees, IsCoreNow}

-- a core before the first entry, and at the number of cores the log of the rounds
abbrev pub opening_core : Meaning → Plan → ℕ → CoreView
opening_core p plan c = record {
  core = opening_state plan c;
  log = [];
  order = p.elect;
  room = length plan.threads;
  blocked_room = length plan.threads;
  log_room = plan.limit;
}

-- the first slots have the cores
pub record CoresLaid (p : Meaning) (plan : Plan) (slots : List Slot) (cores : ℕ) : Type 0 where
  pub count : length slots ≡ cores
  pub each : (c : ℕ) → c < cores → get_elem? slots c ≡ some (slot.Core (opening_core p plan c))

-- the slots have all cores, and behind them the log of the rounds
pub record AllLaid (p : Meaning) (plan : Plan) (slots : List Slot) : Type 0 where
  pub count : length slots ≡ plan.cores + 1
  pub each : (c : ℕ) → c ≤ plan.cores → get_elem? slots c ≡ some (slot_of plan.cores c (opening_core p plan c))

-- each slot is as the history leaves it
abbrev pub AreLeft : Meaning → Plan → List Entry → List Slot → Type 0
AreLeft p plan history slots = (c : ℕ) → c ≤ plan.cores →
    (y : CoreView) × (get_elem? slots c ≡ some (slot_of plan.cores c y)) × IsCoreNow p plan history c y

-- one history, which agrees with all that the opening seat knows, leaves these cores and logs
pub record IsClosed (v : View) (closed : ClosedView) : Type 0 where
  pub history : List Entry
  pub known : Agrees v history
  pub count : length closed.cores ≡ v.plan.cores
  pub cores : (c : ℕ) (y : CoreView) → slice_get closed.cores c ≡ Some y →
      IsCoreNow (meaning_in v) v.plan history c y
  pub logs : LogsOf history closed

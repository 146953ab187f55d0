-- One core changed, and an entry logged at each core that it touches, as the code does it. No promise rests on this.
use Rattle.std.specs.Prelude.{◌≡◌, ℕ, ◌<◌, ◌≤◌, cond, List, [], ◌∷◌, ◌++◌, length, Some, slice_get}
use Rattle.sched_base.specs.declared.limits.TheConstants.{MAX_LOAD, MAX_THREADS}
use Rattle.policy_tree.specs.Meaning.{Meaning}
use Rattle.policy_eval.specs.Ranges.{AreIn, attribute_ranges}
use Rattle.round_model.specs.declared.entry.Entry.{Entry}
use Rattle.round_model.specs.declared.plan.Plan.{Plan}
use Rattle.round_model.specs.declared.state.ModelCore.{ModelCore}
use Rattle.round_model.specs.Bounds.{CoreInBounds}
use Rattle.round_model.specs.Bursts.{HaveBursts}
use Rattle.round_model.specs.Updates.{updated}
use Rattle.round_model.specs.Cores.{Cores, load_of, thread_count}
use Rattle.round_model.specs.Entries.{touches}
use Rattle.core_state.specs.Logs.{after_last, logged}
use Rattle.core_state.specs.Views.{CoreView, HasRoom, HasRoomForAll}
use Rattle.core_moves.specs.Cores.{CoresView, Shows}

-- the fact holds of the core of that number
abbrev pub HoldsAt : List CoreView → ℕ → (CoreView → Type 0) → Type 0
HoldsAt cores c holds = (y : CoreView) → slice_get cores c ≡ Some y → holds y

-- the core of that number is changed so, and nothing else
abbrev pub Becomes : Meaning → ℕ → (ModelCore → ModelCore) → (old new : CoresView) → Type 0
Becomes p c change old new = (plan : Plan) (history : List Entry) (m : Cores) → c < plan.cores
    → Shows p plan history m old → Shows p plan history (updated m c (change (m c))) new

-- a thread may come to the core
pub record CanAdmit (p : Meaning) (y : CoreView) : Type 0 where
  pub consts : AreIn (attribute_ranges p.core_attrs) y.core.consts
  pub room : HasRoom y

-- the core may run a unit
pub record CanRun (p : Meaning) (plan : Plan) (y : CoreView) : Type 0 where
  pub order : y.order ≡ p.elect
  pub bounds : CoreInBounds p y.core
  pub bursts : HaveBursts plan y.core
  pub room : HasRoomForAll y

-- the core's log may take an entry of that position
pub record CanLog (at : ℕ) (y : CoreView) : Type 0 where
  pub room : length y.log < y.log_room
  pub later : after_last 0 y.log ≤ at

-- the core with the entry at its log's end
abbrev pub with_entry : ℕ → Entry → CoreView → CoreView
with_entry at e y = record y { log = y.log ++ logged at e ∷ [] }

-- the core of that number with the entry, where the entry touches it
abbrev pub noted : ℕ → Entry → ℕ → CoreView → CoreView
noted at e c y = cond (touches c e) (with_entry at e y) y

-- the entry of that position is logged at each core that it touches
pub record AreNoted (at : ℕ) (e : Entry) (old new : List CoreView) : Type 0 where
  pub len : length new ≡ length old
  pub each : (c : ℕ) → HoldsAt old c (λ y. slice_get new c ≡ Some (noted at e c y))

-- the entry comes to the history's end, and the cores stay as they are but for their logs
abbrev pub Notes : Entry → (old new : CoresView) → Type 0
Notes e old new = (p : Meaning) (plan : Plan) (history : List Entry) (m : Cores)
    → Shows p plan history m old → Shows p plan (history ++ e ∷ []) m new

-- the threads and the load of the core can be counted
pub record IsCountable (y : CoreView) : Type 0 where
  pub nr : thread_count y.core ≤ MAX_THREADS
  pub load : load_of y.core ≤ MAX_LOAD

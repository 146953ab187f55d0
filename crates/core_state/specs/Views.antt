-- A core that runs as a contract sees it, and all cores at the end.
use Rattle.std.specs.Prelude.{ℕ, ◌<◌, ◌≤◌, List, length}
use Rattle.policy_tree.specs.Meaning.{KeyTree}
use Rattle.round_model.specs.declared.state.ModelCore.{ModelCore}
use Rattle.round_model.specs.Bounds.{standing_count}
use Rattle.core_state.specs.declared.logged.Logged.{Logged}

-- the core of the model, the entries that touched it, the keys by which threads are elected, and for how many queued
-- threads, blocked threads and entries there is room
pub record CoreView : Type 0 where
  pub core : ModelCore
  pub log : List Logged
  pub order : List KeyTree
  pub room : ℕ
  pub blocked_room : ℕ
  pub log_room : ℕ

-- one more thread can be queued, and one more blocked
pub record HasRoom (y : CoreView) : Type 0 where
  pub queue : length y.core.queue < y.room
  pub blocked : length y.core.blocked < y.blocked_room

-- all threads that stand at the core could be queued, and all could be blocked
pub record HasRoomForAll (y : CoreView) : Type 0 where
  pub queue : standing_count y.core ≤ y.room
  pub blocked : standing_count y.core ≤ y.blocked_room

-- all cores in the order of their numbers, and the log of the rounds that began
pub record ClosedView : Type 0 where
  pub cores : List CoreView
  pub rounds : List Logged

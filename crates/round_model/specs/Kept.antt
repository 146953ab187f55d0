-- What a change of the cores keeps: every number in its range, and how many threads stand.
use Rattle.std.specs.Prelude.{◌≡◌, ℕ, length, ◌+◌, ◌≤◌, List, All, IfSome, sum_by}
use Rattle.policy_tree.specs.Meaning.{Meaning}
use Rattle.policy_eval.specs.Fitting.{IsTask}
use Rattle.policy_eval.specs.Ranges.{AreIn, attribute_ranges}
use Rattle.round_model.specs.declared.state.Blocked.{Blocked}
use Rattle.round_model.specs.declared.state.ModelCore.{ModelCore}
use Rattle.round_model.specs.Bounds.{standing_count}

-- the numbers of the core's threads and its constants lie in their ranges
pub record Holds (p : Meaning) (core : ModelCore) : Type 0 where
  pub current : IfSome core.current (IsTask p)
  pub queue : All (IsTask p) core.queue
  pub blocked : All (λ (b : Blocked). IsTask p b.task) core.blocked
  pub consts : AreIn (attribute_ranges p.core_attrs) core.consts

-- the change keeps that of each core, takes at least `less` threads away and adds at most `more`
pub record IsKept (p : Meaning) (less more : ℕ) (old new : List ModelCore) : Type 0 where
  pub len : length new ≡ length old
  pub each : All (Holds p) old → All (Holds p) new
  pub count : sum_by standing_count new + less ≤ sum_by standing_count old + more

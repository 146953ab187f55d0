-- States in bounds: every number that a policy may ask for lies in the policy's ranges.
use Rattle.std.specs.Prelude.{ℕ, ◌+◌, ◌<◌, ◌≤◌, length, All, sum, map}
use Rattle.policy_tree.specs.Meaning.{Meaning}
use Rattle.policy_eval.specs.Fitting.{IsTask, LoadsFit}
use Rattle.policy_eval.specs.Ranges.{AreIn, attribute_ranges}
use Rattle.round_model.specs.declared.plan.Plan.{Plan}
use Rattle.round_model.specs.declared.state.Blocked.{Blocked}
use Rattle.round_model.specs.declared.state.ModelCore.{ModelCore}
use Rattle.round_model.specs.Cores.{Cores, core_numbers, load_of, tasks_of, thread_count}

-- one core in bounds
pub record CoreInBounds (p : Meaning) (core : ModelCore) : Type 0 where
  pub loads : LoadsFit p (thread_count core) (load_of core)
  pub tasks : All (IsTask p) (tasks_of core)
  pub blocked : All (λ (b : Blocked). IsTask p b.task) core.blocked
  pub consts : AreIn (attribute_ranges p.core_attrs) core.consts

-- the threads that stand at a core, blocked ones counted
abbrev pub standing_count : ModelCore → ℕ
standing_count core = thread_count core + length core.blocked

-- the threads that stand at the cores of a plan
abbrev pub standing_total : Plan → Cores → ℕ
standing_total plan m = sum (map (λ c. standing_count (m c)) (core_numbers plan))

-- no more threads stand at cores than so many, and every core is in bounds
pub record IsInBounds (p : Meaning) (plan : Plan) (threads : ℕ) (m : Cores) : Type 0 where
  pub total : standing_total plan m ≤ threads
  pub each : (c : ℕ) → c < plan.cores → CoreInBounds p (m c)

-- Cores that can be counted, and reads that lie in the rows of a past.
use Rattle.std.specs.Prelude.{◌≡◌, ℕ, ◌+◌, ◌≤◌, ◌<◌, List, length, slice_index}
use Rattle.sched_base.specs.declared.limits.TheConstants.{MAX_THREADS}
use Rattle.round_model.specs.declared.plan.Plan.{Plan}
use Rattle.round_model.specs.declared.state.ModelCore.{ModelCore}
use Rattle.round_model.specs.Cores.{thread_count}
use Rattle.round_judge.specs.declared.past.Past.{Past}

-- the core's threads can be counted
abbrev pub IsCountable : ModelCore → Type 0
IsCountable core = thread_count core ≤ MAX_THREADS

-- each core was read in the rows that the past has
pub record ReadIn (plan : Plan) (past : Past) (reads : List ℕ) : Type 0 where
  pub one_each : length reads ≡ plan.cores
  pub from_start : (c : ℕ) → c < plan.cores → past.entries + 1 ≤ slice_index reads c + length past.rows
  pub to_now : (c : ℕ) → c < plan.cores → slice_index reads c ≤ past.entries

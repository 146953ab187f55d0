-- The state of the cores, and what is seen of one.
use Rattle.std.specs.Prelude.{ℕ, ℤ, List, [], ◌++◌, map, length, sum_by, slice_index_or, option_to_list, None}
use Rattle.std.specs.List.{range_with_len}
use Rattle.sched_base.specs.declared.task.Task.{Task}
use Rattle.policy_eval.specs.Sights.{no_attributes}
use Rattle.round_model.specs.declared.plan.Plan.{Plan}
use Rattle.round_model.specs.declared.state.CountAndLoad.{CountAndLoad}
use Rattle.round_model.specs.declared.state.ModelCore.{ModelCore}

-- the cores by their numbers. What stands past the last core of a plan is of no account
abbrev pub Cores : Type 0
Cores = ℕ → ModelCore

-- the numbers of the cores
abbrev pub core_numbers : Plan → List ℕ
core_numbers plan = range_with_len 0 plan.cores

-- the first cores as a list
abbrev pub listed : ℕ → Cores → List ModelCore
listed n m = map m (range_with_len 0 n)

-- the constants of a core
abbrev pub consts_of : Plan → ℕ → List ℤ
consts_of plan c = slice_index_or plan.consts c no_attributes

-- the cores before the first entry: no threads
unfoldable pub opening_state : Plan → Cores
opening_state plan c = record { current = None; queue = []; blocked = []; consts = consts_of plan c }

-- the current thread and the queued ones
abbrev pub tasks_of : ModelCore → List Task
tasks_of core = option_to_list core.current ++ core.queue

-- how many threads are current or queued
abbrev pub thread_count : ModelCore → ℕ
thread_count core = length (tasks_of core)

-- the sum of their weights. Where loads are counts the plan gives each thread the weight 1
abbrev pub load_of : ModelCore → ℕ
load_of core = sum_by (λ (t : Task). t.weight) (tasks_of core)

-- thread count and load of a core, which is all that changes of what others see of it
abbrev pub seen_of : ModelCore → CountAndLoad
seen_of core = record { nr = thread_count core; load = load_of core }

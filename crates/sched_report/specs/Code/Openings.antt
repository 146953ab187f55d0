-- What is told of a round as it opens, over a state as a list of cores.
use Rattle.std.specs.Prelude.{ℕ, ◌==◌, nat_le, ◌<◌, ◌≤◌, cond, List, [], Option, None, Some, count_by, map}
use Rattle.std.specs.Prelude.{slice_index_or}
use Rattle.std.specs.List.{list_any}
use Rattle.sched_base.specs.declared.limits.TheConstants.{MAX_LOAD}
use Rattle.policy_tree.specs.Meaning.{Meaning}
use Rattle.policy_eval.specs.Fitting.{CoreFits}
use Rattle.policy_eval.specs.Sights.{no_attributes}
use Rattle.round_model.specs.declared.entry.Entry.{Entry}
use Rattle.round_model.specs.declared.entry.Entry.TheVariants as entry
use Rattle.round_model.specs.declared.plan.Plan.{Plan}
use Rattle.round_model.specs.declared.state.ModelCore.{ModelCore}
use Rattle.round_model.specs.Attempts.{present_values}
use Rattle.round_model.specs.Cores.{Cores, load_of, thread_count}
use Rattle.round_model.specs.Spread.{spread_of}
use Rattle.sched_report.specs.Rests.{gap_at_rest}
use Rattle.sched_report.specs.declared.rows.RoundRow.{RoundRow}

-- the load is no greater than one may be
abbrev pub IsLight : ModelCore → Type 0
IsLight core = load_of core ≤ MAX_LOAD

-- how many of these cores are idle where one of them is overloaded, and 0 elsewhere
abbrev pub idle_in : List ModelCore → ℕ
idle_in cores = cond (list_any (λ (core : ModelCore). nat_le 2 (thread_count core)) cores)
    (count_by (λ (core : ModelCore). thread_count core == 0) cores) 0

-- a core that holds nothing
abbrev pub no_core : ModelCore
no_core = record { current = None; queue = []; blocked = []; consts = no_attributes }

-- the cores of a list, by their numbers
abbrev pub core_at : List ModelCore → Cores
core_at cores c = slice_index_or cores c no_core

-- the filter may be asked of each core of the plan
abbrev pub AllFit : Meaning → Plan → Cores → Type 0
AllFit p plan m = (c : ℕ) → c < plan.cores → CoreFits p (present_values plan m c)

-- the row of a round that opens with these cores
abbrev pub row_in : Meaning → Plan → List ModelCore → ℕ → RoundRow
row_in p plan cores number = record {
  number = number;
  spread = spread_of (map load_of cores);
  idle = idle_in cores;
  rest = gap_at_rest p plan (core_at cores);
}

-- the row of an entry, where a round begins in it
abbrev pub row_told : Meaning → Plan → List ModelCore → Entry → Option RoundRow
row_told p plan cores (entry.Round number) = Some (row_in p plan cores number)
row_told p plan cores e = None

-- The reports that tell of waste, on worked histories of policies that are accepted and of some that are refused.
use Rattle.std.specs.Prelude.{ℕ, List, [], ◌∷◌, None, Some, codes}
use Rattle.policy_tree.specs.declared.typed.Load.TheVariants as load
use Rattle.policy_tree.specs.declared.typed.Put.TheVariants as put
use Rattle.policy_tree.specs.Meaning.{Meaning, here}
use Rattle.fair_policy.specs.Forms.{handlers_with, whenever}
use Rattle.round_model.specs.declared.entry.Did.TheVariants as did
use Rattle.round_model.specs.declared.entry.Entry.{Entry}
use Rattle.round_model.specs.declared.entry.Entry.TheVariants as entry
use Rattle.round_model.specs.declared.plan.Plan.{Plan}
use Rattle.sched_report.specs.declared.rows.StillRow.{StillRow}
use Rattle.sched_report.specs.declared.rows.WasteReport.{WasteReport}
use Rattle.sched_report.specs.Wastes.{IsWaste}
use Rattle.model_tests.specs.Histories.{eight_threads_history}
use Rattle.model_tests.specs.Plans.{eight_threads, endless, plan_of}
use Rattle.model_tests.specs.Policies.{basic, gap_of}
use Rattle.row_tests.specs.Rows.{eight_threads_report, later_rounds, opens}

-- the basic policy, where so many threads more are enough
abbrev pub with_gap : ℕ → Meaning
with_gap least_gap = record {
  name = codes "gap";
  load = load.Count;
  core_attrs = [];
  thread_attrs = [];
  place = here;
  elect = [];
  handlers = handlers_with (whenever [] put.Keep);
  filter = gap_of least_gap;
  choose = [];
  steal = [];
  batch = None;
}

-- it takes from a core that has nothing queued
abbrev pub eager : Meaning
eager = with_gap 1

-- it doesn't take of two threads
abbrev pub timid : Meaning
timid = with_gap 3

-- eight threads on the first of four cores: six steals spread them
abbrev pub eight_threads_waste : WasteReport
eight_threads_waste = record {
  rounds = eight_threads_report.rounds;
  stretches = record { still = later_rounds; steals = 6 } ∷ [];
  causes = [];
  totals = record { rounds = 4; entries = 44; steals = 6; fails = 0; bad = 1; wasted = 3 };
}

abbrev pub EightThreadsWaste : Type 0
EightThreadsWaste = IsWaste basic eight_threads eight_threads_history eight_threads_waste

-- two cores and one thread without end
abbrev pub one_thread : Plan
one_thread = plan_of 2 1 (endless 1 ∷ []) []

abbrev pub one_thread_history : List Entry
one_thread_history =
    entry.Round 1
    ∷ entry.Enter 1 0 0 []
    ∷ entry.Work 0 (did.Kept 1)
    ∷ entry.Pass 0 (3 ∷ 1 ∷ [])
    ∷ entry.Work 1 did.Nothing
    ∷ entry.Fail 1 0 (4 ∷ 5 ∷ [])
    ∷ []

-- nothing explains the failed steal
abbrev pub eager_waste : WasteReport
eager_waste = record {
  rounds = opens 1 0 0 (Some 0) ∷ [];
  stretches = [];
  causes = record { at = 5; by = None } ∷ [];
  totals = record { rounds = 1; entries = 6; steals = 0; fails = 1; bad = 0; wasted = 0 };
}

abbrev pub EagerWaste : Type 0
EagerWaste = IsWaste eager one_thread one_thread_history eager_waste

-- two cores, and two threads without end on the first of them
abbrev pub two_threads : Plan
two_threads = plan_of 2 3 (endless 1 ∷ endless 2 ∷ []) []

abbrev pub two_threads_history : List Entry
two_threads_history =
    entry.Round 1
    ∷ entry.Enter 1 0 0 []
    ∷ entry.Enter 2 0 0 []
    ∷ entry.Work 0 (did.Kept 1)
    ∷ entry.Pass 0 (4 ∷ 1 ∷ [])
    ∷ entry.Work 1 did.Nothing
    ∷ entry.Pass 1 (5 ∷ 6 ∷ [])
    ∷ entry.Round 2
    ∷ entry.Work 0 (did.Kept 1)
    ∷ entry.Pass 0 (9 ∷ 8 ∷ [])
    ∷ entry.Work 1 did.Nothing
    ∷ entry.Pass 1 (10 ∷ 11 ∷ [])
    ∷ entry.Round 3
    ∷ entry.Work 0 (did.Kept 1)
    ∷ entry.Pass 0 (14 ∷ 13 ∷ [])
    ∷ entry.Work 1 did.Nothing
    ∷ entry.Pass 1 (15 ∷ 16 ∷ [])
    ∷ []

-- from round 2 on a core waits beside an overloaded one, and nobody steals: so the cores are at rest
abbrev pub timid_stretch : StillRow
timid_stretch = record { first = 2; last = 3; spread = 2; bad = 2; rest = Some (record { round = 2; gap = 2 }) }

abbrev pub timid_waste : WasteReport
timid_waste = record {
  rounds = opens 1 0 0 (Some 0) ∷ opens 2 2 1 (Some 2) ∷ opens 3 2 1 (Some 2) ∷ [];
  stretches = record { still = timid_stretch; steals = 0 } ∷ [];
  causes = [];
  totals = record { rounds = 3; entries = 17; steals = 0; fails = 0; bad = 2; wasted = 2 };
}

abbrev pub TimidWaste : Type 0
TimidWaste = IsWaste timid two_threads two_threads_history timid_waste

-- The plans of the worked rows.
use Rattle.std.specs.Prelude.{ℕ, List, [], ◌∷◌, ◌++◌, map, replicate}
use Rattle.policy_eval.specs.Sights.{no_attributes}
use Rattle.round_model.specs.declared.plan.Burst.{Burst}
use Rattle.round_model.specs.declared.plan.Ending.{Ending}
use Rattle.round_model.specs.declared.plan.Ending.TheVariants as ending
use Rattle.round_model.specs.declared.plan.OrderLine.{OrderLine}
use Rattle.round_model.specs.declared.plan.Plan.{Plan}
use Rattle.round_model.specs.declared.plan.Planned.{Planned}

-- so many units, and what follows them
abbrev pub run : ℕ → Ending → Burst
run units what = record { units = units; ending = what }

-- a thread that core 0 lets in in round 1
abbrev pub thread : (id weight : ℕ) → List Burst → Planned
thread id weight bursts = record { id = id; core = 0; round = 1; weight = weight; bursts = bursts }

-- a thread without end that core 0 lets in in round 2
abbrev pub late : (id weight : ℕ) → Planned
late id weight = record { id = id; core = 0; round = 2; weight = weight; bursts = run 1 ending.Forever ∷ [] }

-- a thread of weight 1 without end
abbrev pub endless : ℕ → Planned
endless id = thread id 1 (run 1 ending.Forever ∷ [])

-- a thread of that weight without end
abbrev pub weighing : (id weight : ℕ) → Planned
weighing id weight = thread id weight (run 1 ending.Forever ∷ [])

-- the cores take steps in this order in round 1
abbrev pub in_order : List ℕ → List OrderLine
in_order cores = record { round = 1; cores = cores } ∷ []

abbrev pub plan_of : (cores rounds : ℕ) → List Planned → List OrderLine → Plan
plan_of cores rounds threads orders =
    record {
      cores = cores;
      rounds = rounds;
      limit = 8192;
      consts = replicate cores no_attributes;
      threads = threads;
      orders = orders;
    }

-- one core and a thread of two units
abbrev pub one_core : Plan
one_core = plan_of 1 10 (thread 1 1 (run 2 ending.End ∷ []) ∷ []) []

-- two cores and two threads without end
abbrev pub two_cores : Plan
two_cores = plan_of 2 1 (endless 1 ∷ endless 2 ∷ []) []

-- three cores, two of which look at the first before either takes a thread of it
abbrev pub stale_read : Plan
stale_read = plan_of 3 1 (endless 1 ∷ endless 2 ∷ []) (in_order (0 ∷ 0 ∷ 0 ∷ 0 ∷ 0 ∷ 1 ∷ 1 ∷ 2 ∷ 2 ∷ 1 ∷ 2 ∷ []))

-- eight threads on the first of four cores, let in once the other cores' turns are over
abbrev pub eight_threads : Plan
eight_threads = plan_of 4 4 (map endless (1 ∷ 2 ∷ 3 ∷ 4 ∷ 5 ∷ 6 ∷ 7 ∷ 8 ∷ []))
    (in_order (1 ∷ 1 ∷ 1 ∷ 2 ∷ 2 ∷ 2 ∷ 3 ∷ 3 ∷ 3 ∷ []))

-- six threads on the first of two cores
abbrev pub six_threads : Plan
six_threads = plan_of 2 1 (map endless (1 ∷ 2 ∷ 3 ∷ 4 ∷ 5 ∷ 6 ∷ [])) []

-- six threads on the first of two cores, and one on the second
abbrev pub seven_threads : Plan
seven_threads = plan_of 2 1 (map endless (1 ∷ 2 ∷ 3 ∷ 4 ∷ 5 ∷ 6 ∷ []) ++ record (endless 7) { core = 1 } ∷ []) []

-- six threads of several weights on the first of two cores
abbrev pub six_weights : Plan
six_weights = plan_of 2 1
    (weighing 1 2 ∷ weighing 2 7 ∷ weighing 3 8 ∷ weighing 4 5 ∷ weighing 5 3 ∷ weighing 6 1 ∷ []) []

-- a heavy thread and two light ones on the first of two cores
abbrev pub three_weights : Plan
three_weights = plan_of 2 1 (weighing 1 8 ∷ weighing 2 1 ∷ weighing 3 1 ∷ []) []

-- a thread that blocks and wakes, and one without end
abbrev pub block_and_wake : Plan
block_and_wake = plan_of 2 2 (thread 1 3 (run 1 (ending.Block 1) ∷ run 1 ending.End ∷ [])
    ∷ thread 2 5 (run 1 ending.Forever ∷ []) ∷ []) []

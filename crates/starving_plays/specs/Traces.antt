-- The traces that are tried: threads without end, which all come to one core in the first round.
use Rattle.std.specs.Prelude.{ℕ, List, [], ◌++◌, codes, decimal, Option, Some, None}
use Rattle.policy_tree.specs.declared.typed.Load.{Load}
use Rattle.policy_eval.specs.Ranges.{greatest_weight, least_weight}
use Rattle.starving_plays.specs.declared.traces.Crowd.{Crowd}

-- words and a number behind them
abbrev pub numbered : List ℕ → ℕ → List ℕ
numbered words number = words ++ decimal number

-- the line of the thread of that number and weight
abbrev pub thread_line : (thread weight : ℕ) → List ℕ
thread_line thread weight =
    numbered (codes "thread ") thread ++ (numbered (codes " core 0 round 1 weight ") weight ++ codes " forever\n")

-- the line of a third thread, if there is one
abbrev pub third_line : Option ℕ → List ℕ
third_line None = []
third_line (Some weight) = thread_line 3 weight

-- the text of the trace of threads of these weights
abbrev pub trace_text : Crowd → List ℕ
trace_text crowd =
    codes "cores 1\nrounds 200\n"
    ++ (thread_line 1 crowd.first ++ (thread_line 2 crowd.second ++ third_line crowd.third))

-- the threads that are tried: two of the least weight, one of the least and one of the greatest, and three of the least
abbrev pub two_alike : Load → Crowd
two_alike load = record { first = least_weight load; second = least_weight load; third = None }

abbrev pub two_unlike : Load → Crowd
two_unlike load = record { first = least_weight load; second = greatest_weight load; third = None }

abbrev pub three_alike : Load → Crowd
three_alike load =
    record { first = least_weight load; second = least_weight load; third = Some (least_weight load) }

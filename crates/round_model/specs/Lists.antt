-- Where a plan has the thread of each number.
use Rattle.std.specs.Prelude.{◌≡◌, ℕ, List, Option, None, slice_get, slice_index_or, option_and_then}
use Rattle.round_model.specs.declared.plan.Plan.{Plan}
use Rattle.round_model.specs.Programs.{planned_of}

-- the place that the directory has for a number
abbrev pub place_in : List (Option ℕ) → ℕ → Option ℕ
place_in directory id = slice_index_or directory id None

-- the directory leads to the plan's thread of each number
abbrev pub Lists : Plan → List (Option ℕ) → Type 0
Lists plan directory = (id : ℕ) → planned_of plan id ≡ option_and_then (slice_get plan.threads) (place_in directory id)

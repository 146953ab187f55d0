-- Idle and overloaded cores, and the measure of how far loads lie apart.
use Rattle.std.specs.Prelude.{◌≡◌, ℕ, ◌+◌, ◌<◌, ◌≤◌, ◌==◌, Bool, List, [], ◌∷◌, count_by, map, sum_by}
use Rattle.std.specs.Int.{abs_diff}
use Rattle.round_model.specs.declared.state.ModelCore.{ModelCore}
use Rattle.round_model.specs.declared.plan.Plan.{Plan}
use Rattle.round_model.specs.Cores.{Cores, core_numbers, load_of, thread_count}

-- no thread is current or queued
abbrev pub IsIdle : ModelCore → Type 0
IsIdle core = thread_count core ≡ 0

-- two threads or more are current or queued
abbrev pub IsOverloaded : ModelCore → Type 0
IsOverloaded core = 2 ≤ thread_count core

-- whether a core of the state is idle
abbrev pub has_none : Cores → ℕ → Bool
has_none m c = thread_count (m c) == 0

-- how many cores are idle
unfoldable pub idle_count : Plan → Cores → ℕ
idle_count plan m = count_by (has_none m) (core_numbers plan)

-- some core is idle while another is overloaded
pub record Beside (plan : Plan) (m : Cores) : Type 0 where
  pub idle : ℕ
  pub overloaded : ℕ
  pub idle_there : idle < plan.cores
  pub overloaded_there : overloaded < plan.cores
  pub is_idle : IsIdle (m idle)
  pub is_overloaded : IsOverloaded (m overloaded)

-- the sum of the distances between numbers, each pair once
abbrev pub spread_of : List ℕ → ℕ
spread_of [] = 0
spread_of (x ∷ xs) = sum_by (abs_diff x) xs + spread_of xs

-- the load spread of a state
unfoldable pub spread : Plan → Cores → ℕ
spread plan m = spread_of (map (λ c. load_of (m c)) (core_numbers plan))

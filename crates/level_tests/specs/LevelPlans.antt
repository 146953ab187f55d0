-- Serial play of plans under compiled policies.
use Rattle.std.specs.Prelude.{◌≡◌, ℕ, List, [], ◌∷◌, map, ◌++◌, length, slice_get, Some}
use Rattle.round_model.specs.declared.entry.Entry.TheVariants as entry
use Rattle.round_model.specs.declared.plan.Ending.TheVariants as ending
use Rattle.round_model.specs.declared.plan.OrderLine.{OrderLine}
use Rattle.round_model.specs.declared.plan.Plan.{Plan}
use Rattle.round_model.specs.declared.plan.Planned.{Planned}
use Rattle.serial_steps.specs.SerialRounds.{serial_history}
use Rattle.level_policy.specs.Compiled.{compiled}
use Rattle.level_tests.specs.LevelPolicies.{numa, overlapping, seen}

-- a thread of weight 1 without end, which that core lets in in round 1
abbrev pub endless : ℕ → ℕ → Planned
endless core id = record {
  id = id;
  core = core;
  round = 1;
  weight = 1;
  bursts = record { units = 1; ending = ending.Forever } ∷ [];
}

-- one round of cores with these two attributes each
abbrev pub plan_of : List (ℕ × ℕ) → List Planned → List OrderLine → Plan
plan_of cores threads orders = record {
  cores = length cores;
  rounds = 1;
  limit = 8192;
  consts = map (λ (core : ℕ × ℕ). (seen 0 core.0 core.1).consts) cores;
  threads = threads;
  orders = orders;
}

-- threads 1 to 3 on core 0 of the one node, 4 and 5 on core 1 of the other, and an idle core beside it
abbrev pub two_nodes_plan : Plan
two_nodes_plan = plan_of ((0, 0) ∷ (1, 0) ∷ (1, 0) ∷ [])
    (map (endless 0) (1 ∷ 2 ∷ 3 ∷ []) ++ map (endless 1) (4 ∷ 5 ∷ [])) []

-- threads 1 to 4 on core 0, 5 to 7 on core 1; core 3 looks before core 2 steals
abbrev pub four_cores_plan : Plan
four_cores_plan = plan_of ((0, 1) ∷ (0, 0) ∷ (1, 1) ∷ (0, 0) ∷ [])
    (map (endless 0) (1 ∷ 2 ∷ 3 ∷ 4 ∷ []) ++ map (endless 1) (5 ∷ 6 ∷ 7 ∷ []))
    (record { round = 1; cores = 0 ∷ 0 ∷ 0 ∷ 0 ∷ 0 ∷ 1 ∷ 1 ∷ 1 ∷ 1 ∷ 3 ∷ 3 ∷ [] } ∷ [])

-- core 2 takes thread 5 of its own node, though core 0 is fuller
pub record TakesNear : Type 0 where
  pub entries : length (serial_history (compiled numa) two_nodes_plan) ≡ 12
  pub last : slice_get (serial_history (compiled numa) two_nodes_plan) 11 ≡
      Some (entry.Steal 2 1 (5 ∷ []) (6 ∷ 10 ∷ 11 ∷ []))

-- core 3 takes from the fuller of two cores of its first level, though the second takes the other in too
pub record TakesFullest : Type 0 where
  pub entries : length (serial_history (compiled overlapping) four_cores_plan) ≡ 16
  pub last : slice_get (serial_history (compiled overlapping) four_cores_plan) 15 ≡
      Some (entry.Steal 3 0 (3 ∷ []) (6 ∷ 10 ∷ 1 ∷ 11 ∷ []))

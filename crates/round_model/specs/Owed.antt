-- What a core still owes in the open round.
use Rattle.std.specs.Prelude.{ℕ, ◌+◌, ◌==◌, cond, List, count_by, map, sum}
use Rattle.policy_tree.specs.Meaning.{Meaning}
use Rattle.round_model.specs.declared.entry.Entry.{Entry}
use Rattle.round_model.specs.declared.plan.Plan.{Plan}
use Rattle.round_model.specs.Cores.{core_numbers}
use Rattle.round_model.specs.Scenes.{Scene, has_attempted, has_worked, is_due_blocked, is_entering, scene_of}
use Rattle.round_model.specs.Legal.{rounds_begun}

-- the threads that have yet to enter
abbrev pub entering_count : Plan → Scene → ℕ → ℕ
entering_count plan s a = count_by (is_entering s.round a s.own) plan.threads

-- the blocked threads that have yet to wake. Once the core has worked, none wakes any more in the round
abbrev pub waking_count : Scene → ℕ → ℕ
waking_count s a = cond (has_worked s.own) 0 (count_by (is_due_blocked s.round) (s.cores a).blocked)

-- the entries that the core owes: threads to let in, threads to wake, one unit of work and one attempt
abbrev pub owed_in : Plan → Scene → ℕ → ℕ
owed_in plan s a =
    entering_count plan s a + waking_count s a + cond (has_worked s.own) 0 1 + cond (has_attempted s.own) 0 1

-- before the first round nothing is owed
unfoldable pub owed : Meaning → Plan → List Entry → ℕ → ℕ
owed p plan history a = cond (rounds_begun history == 0) 0 (owed_in plan (scene_of p plan history a) a)

-- what all cores owe
abbrev pub owed_total : Meaning → Plan → List Entry → ℕ
owed_total p plan history = sum (map (owed p plan history) (core_numbers plan))

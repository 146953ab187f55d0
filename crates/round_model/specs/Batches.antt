-- How the threads of a steal stand in queues, and what is seen of the cores as they move.
use Rattle.std.specs.Prelude.{ℕ, ◌+◌, ◌-◌, ◌<◌, ◌==◌, Bool, cond, List, [], ◌∷◌}
use Rattle.std.specs.List.{list_any}
use Rattle.sched_base.specs.declared.task.Task.{Task}
use Rattle.policy_eval.specs.declared.env.CoreValues.{CoreValues}
use Rattle.round_model.specs.Cores.{Cores}
use Rattle.round_model.specs.Moves.{StandOnce}

-- no number stands twice in a queue of so many cores
abbrev pub QueuesStandOnce : ℕ → Cores → Type 0
QueuesStandOnce cores m = (c : ℕ) → c < cores → StandOnce (m c).queue

-- whether the number is among these
abbrev pub is_named : List ℕ → ℕ → Bool
is_named ids id = list_any (λ (i : ℕ). id == i) ids

-- the tasks whose numbers aren't among these, in their order
abbrev pub unnamed : List ℕ → List Task → List Task
unnamed ids [] = []
unnamed ids (t ∷ ts) = cond (is_named ids t.id) (unnamed ids ts) (t ∷ unnamed ids ts)

-- what is seen of a core that has so many threads more, with that load
abbrev pub with_more : ℕ → ℕ → CoreValues → CoreValues
with_more threads load core = record core { nr = core.nr + threads; load = core.load + load }

-- and of one that has so many fewer
abbrev pub with_fewer : ℕ → ℕ → CoreValues → CoreValues
with_fewer threads load core = record core { nr = core.nr - threads; load = core.load - load }

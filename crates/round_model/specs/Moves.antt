-- How threads come to a core and leave it.
use Rattle.std.specs.Prelude.{ℕ, ◌==◌, ◌≤◌, Bool, cond, List, [], ◌∷◌, ◌++◌, find, fold, option_to_list, Option, Some}
use Rattle.std.specs.Prelude.{count_by}
use Rattle.sched_base.specs.declared.task.Task.{Task}
use Rattle.policy_tree.specs.declared.typed.Event.{Event}
use Rattle.policy_tree.specs.declared.typed.Event.TheVariants as event
use Rattle.policy_tree.specs.declared.typed.Put.{Put}
use Rattle.policy_tree.specs.declared.typed.Put.TheVariants as put
use Rattle.policy_tree.specs.Meaning.{Meaning}
use Rattle.policy_eval.specs.Events.{outcomes_of}
use Rattle.round_model.specs.declared.state.Blocked.{Blocked}
use Rattle.round_model.specs.declared.state.ModelCore.{ModelCore}

-- the list without the first item that passes
abbrev pub without_first : {X : Type 0} → (X → Bool) → List X → List X
without_first test [] = []
without_first test (x ∷ xs) = cond (test x) xs (x ∷ without_first test xs)

abbrev pub is_task : ℕ → Task → Bool
is_task id t = t.id == id

-- no number stands twice among the tasks
abbrev pub StandOnce : List Task → Type 0
StandOnce tasks = (id : ℕ) → count_by (is_task id) tasks ≤ 1

abbrev pub is_blocked_task : ℕ → Blocked → Bool
is_blocked_task id b = b.task.id == id

-- the core with the thread at the end of its blocked list, to wake in that round
abbrev pub blocked_put : ℕ → Task → ModelCore → ModelCore
blocked_put wake t core = record core { blocked = core.blocked ++ record { task = t; wake = wake } ∷ [] }

-- the core with the thread put there
abbrev pub with_task : Put → ℕ → Task → ModelCore → ModelCore
with_task put.Queue wake t core = record core { queue = core.queue ++ t ∷ [] }
with_task put.Keep wake t core = record core { current = Some t }
with_task put.Block wake t core = blocked_put wake t core

abbrev pub with_outcome : ℕ → ModelCore → Task × Put → ModelCore
with_outcome wake core outcome = with_task outcome.1 wake outcome.0 core

-- the core after a thread that stands nowhere met the event: each case that holds puts it once
unfoldable pub core_after_event : Meaning → Event → Bool → ℕ → Task → ModelCore → ModelCore
core_after_event p e fresh wake t core = fold (with_outcome wake) core (outcomes_of p e fresh core.consts t)

-- the core after a thread came to it
abbrev pub admitted : Meaning → Bool → Task → ModelCore → ModelCore
admitted p fresh t core = core_after_event p event.Enqueue fresh 0 t core

-- the blocked thread of that number
abbrev pub blocked_of : ℕ → ModelCore → Option Blocked
blocked_of id core = find (is_blocked_task id) core.blocked

-- the core without the blocked thread of that number
unfoldable pub released : ℕ → ModelCore → ModelCore
released id core = record core { blocked = without_first (is_blocked_task id) core.blocked }

-- the earliest queued thread of that number
abbrev pub queued_of : ℕ → ModelCore → Option Task
queued_of id core = find (is_task id) core.queue

-- the core without that queued thread
unfoldable pub handed : ℕ → ModelCore → ModelCore
handed id core = record core { queue = without_first (is_task id) core.queue }

-- the core with the thread at the end of its queue. No handler runs
unfoldable pub received : Task → ModelCore → ModelCore
received t core = record core { queue = core.queue ++ t ∷ [] }

-- the queued tasks that a list of numbers names, in the order of the numbers, and the queue without them
pub record Taken : Type 0 where
  pub found : List Task
  pub left : List Task

-- What is named and not queued is passed over. Of equal numbers the earliest task is found
abbrev pub taken_from : List ℕ → List Task → Taken
taken_from [] queue = record { found = []; left = queue }
taken_from (id ∷ ids) queue =
    let rest = taken_from ids (without_first (is_task id) queue) in
    record { found = option_to_list (find (is_task id) queue) ++ rest.found; left = rest.left }

-- the core without the queued threads of these numbers
unfoldable pub handed_all : List ℕ → ModelCore → ModelCore
handed_all ids core = record core { queue = (taken_from ids core.queue).left }

-- the core with these threads at the end of its queue, in this order. No handler runs
unfoldable pub received_all : List Task → ModelCore → ModelCore
received_all tasks core = record core { queue = core.queue ++ tasks }

-- The outcome of an attempt: read values decide the choice, present values decide the rest.
use Rattle.std.specs.Prelude.{ℕ, zero, suc, ◌-◌, Bool, cond, List, [], ◌∷◌, Option, Some, None}
use Rattle.sched_base.specs.declared.task.Task.{Task}
use Rattle.policy_tree.specs.Meaning.{BatchTree, Meaning}
use Rattle.policy_eval.specs.declared.env.CoreValues.{CoreValues}
use Rattle.policy_eval.specs.Orders.{best_of}
use Rattle.policy_eval.specs.Sights.{move_values}
use Rattle.policy_eval.specs.Values.{holds}
use Rattle.round_model.specs.declared.entry.Entry.{Entry}
use Rattle.round_model.specs.declared.entry.Entry.TheVariants as entry
use Rattle.round_model.specs.declared.plan.Plan.{Plan}
use Rattle.round_model.specs.declared.state.ModelCore.{ModelCore}
use Rattle.round_model.specs.Choices.{choice_of, may_steal}
use Rattle.round_model.specs.Cores.{Cores, seen_of}
use Rattle.round_model.specs.Moves.{handed, received}
use Rattle.round_model.specs.Reads.{values_of}
use Rattle.round_model.specs.Work.{before}

-- what the filter sees of a core as it is
abbrev pub present_values : Plan → Cores → ℕ → CoreValues
present_values plan m c = values_of plan c (seen_of (m c))

-- the task, if there is one that passes
abbrev pub kept_if : (Task → Bool) → Option Task → Option Task
kept_if test None = None
kept_if test (Some t) = cond (test t) (Some t) None

-- what comes of a task, and no thread where there is no task
abbrev pub moves_with : Option Task → (Task → List ℕ) → List ℕ
moves_with None moves = []
moves_with (Some t) moves = moves t

-- the moves of the core a from the core v, over what each of them is before the next move
module _ (p : Meaning) (plan : Plan) (a v : ℕ) where
  -- the thread that is moved first: the best of the victim's queue, where the filter holds of both cores
  abbrev pub first_of : (thief victim : ModelCore) → Option Task
  first_of thief victim =
      cond (may_steal p (values_of plan a (seen_of thief)) (values_of plan v (seen_of victim)))
      (best_of (before p.steal) victim.queue) None

  -- whether a batch goes on with that thread: its condition holds of both cores as the moves left them
  abbrev pub goes_on : BatchTree → (thief victim : ModelCore) → Task → Bool
  goes_on batch thief victim t =
      holds
      (move_values (values_of plan a (seen_of thief)) (values_of plan v (seen_of victim)) t.weight t.attrs)
      batch.condition

  -- the thread that is moved next: the best of those that are left, where the batch goes on with it
  unfoldable pub next_of : BatchTree → (thief victim : ModelCore) → Option Task
  next_of batch thief victim = kept_if (goes_on batch thief victim) (best_of (before p.steal) victim.queue)

  -- the further moves, at most so many of them
  unfoldable pub further_moves : BatchTree → ℕ → (thief victim : ModelCore) → List ℕ
  further_moves batch zero thief victim = []
  further_moves batch (suc n) thief victim =
      moves_with (next_of batch thief victim)
      (λ t. t.id ∷ further_moves batch n (received t thief) (handed t.id victim))

  -- the moves after the first one. Without a batch there is none
  abbrev pub moves_after : Option BatchTree → (thief victim : ModelCore) → List ℕ
  moves_after None thief victim = []
  moves_after (Some batch) thief victim = further_moves batch (batch.limit - 1) thief victim

  -- the threads that a steal moves, in the order of their moves. Where there is none, the attempt fails
  abbrev pub moves_of : Option BatchTree → (thief victim : ModelCore) → List ℕ
  moves_of batch thief victim =
      moves_with (first_of thief victim)
      (λ t. t.id ∷ moves_after batch (received t thief) (handed t.id victim))

-- a steal of these threads. Where there is none, the attempt fails
abbrev pub steal_or_fail : (by from : ℕ) → List ℕ → List ℕ → Entry
steal_or_fail by from reads [] = entry.Fail by from reads
steal_or_fail by from reads (id ∷ ids) = entry.Steal by from (id ∷ ids) reads

-- the attempt on the core v, by the cores as they are. A steal moves as many threads as the policy's batch says
abbrev pub attempt_on : Meaning → Plan → Cores → ℕ → List ℕ → ℕ → Entry
attempt_on p plan m a reads v = steal_or_fail a v reads (moves_of p plan a v p.batch (m a) (m v))

-- the attempt with this choice
abbrev pub attempt_with : Meaning → Plan → Cores → ℕ → List ℕ → Option ℕ → Entry
attempt_with p plan m a reads None = entry.Pass a reads
attempt_with p plan m a reads (Some v) = attempt_on p plan m a reads v

-- the entry of the attempt of the core a, which read these values at these positions
unfoldable pub attempt_of : Meaning → Plan → Cores → (ℕ → CoreValues) → ℕ → List ℕ → Entry
attempt_of p plan m values a reads = attempt_with p plan m a reads (choice_of p plan.cores values a)

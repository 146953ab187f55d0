-- Tasks among which no number stands twice: their best is the one that its number finds, and those whose numbers aren't
-- taken are the queue as the moves left it.
use Rattle.std.proofs.Common.{◌≡◌, ℕ, ◌+◌, ◌≤◌, ◌||◌, Bool, true, false, cond, List, [], ◌∷◌, find, count_by, option_to_list, Some, eq-eqb, refl, sym, ap, ◌∙◌, subst, arith}
use Rattle.std.proofs.lemmas.List.Sums.{sum_by-append, sum_by-cons}
use Rattle.sched_base.specs.declared.task.Task.{Task}
use Rattle.policy_tree.specs.Meaning.{Meaning}
use Rattle.policy_eval.specs.Obligations.{MeetsHandlerObligations}
use Rattle.policy_eval.specs.Orders.{best_of}
use Rattle.round_model.specs.declared.entry.Entry.{Entry}
use Rattle.round_model.specs.declared.plan.Plan.{Plan}
use Rattle.round_model.specs.declared.state.ModelCore.{ModelCore}
use Rattle.round_model.specs.After.{after}
use Rattle.round_model.specs.Batches.{QueuesStandOnce, is_named, unnamed}
use Rattle.round_model.specs.Cores.{tasks_of}
use Rattle.round_model.specs.Fits.{Fits}
use Rattle.round_model.specs.Legal.{Legal}
use Rattle.round_model.specs.Moves.{StandOnce, is_task, taken_from, without_first}
use Rattle.round_model.proofs.Bests.{best_among, found_alone}
use Rattle.round_model.proofs.Bounded.{bounds_law}
use Rattle.round_model.proofs.Takings.{sum-taken}
use Rattle.round_model.proofs.Totals.{total_has, total_is}

-- what counts a task of that number
abbrev one_of : ℕ → Task → ℕ
one_of id t = cond (is_task id t) 1 0

count-cons : (id : ℕ) (t : Task) (ts : List Task) → count_by (is_task id) (t ∷ ts) ≡ one_of id t + count_by (is_task id) ts
count-cons id t ts = sum_by-cons (one_of id) t ts

once-tail : (t : Task) (ts : List Task) → StandOnce (t ∷ ts) → StandOnce ts
once-tail t ts once id = let one = once id in omega (arith, one, count-cons id t ts)

-- none stands twice where tasks were taken
pub once-left : (ids : List ℕ) (tasks : List Task) → StandOnce tasks → StandOnce (taken_from ids tasks).left
once-left ids tasks once other = let both = sum-taken (one_of other) ids tasks in let one = once other in omega (arith, both, one)

pub once-without : (id : ℕ) (tasks : List Task) → StandOnce tasks → StandOnce (without_first (is_task id) tasks)
once-without id tasks once = once-left (id ∷ []) tasks once

-- one number more, of a task that isn't there
unnamed-absent : (id : ℕ) (ids : List ℕ) (ts : List Task) → count_by (is_task id) ts ≡ 0 → unnamed (id ∷ ids) ts ≡ unnamed ids ts
unnamed-absent id ids [] none = refl
unnamed-absent id ids (t ∷ ts) none = at (unnamed-absent id ids ts) (is_task id t) (sym (count-cons id t ts) ∙ none)
  where
    at : (count_by (is_task id) ts ≡ 0 → unnamed (id ∷ ids) ts ≡ unnamed ids ts) → (b : Bool) → cond b 1 0 + count_by (is_task id) ts ≡ 0
        → cond (b || is_named ids t.id) (unnamed (id ∷ ids) ts) (t ∷ unnamed (id ∷ ids) ts) ≡ cond (is_named ids t.id) (unnamed ids ts) (t ∷ unnamed ids ts)
    at rest true n = absurd (omega (arith, n))
    at rest false n = ap (λ (list : List Task). cond (is_named ids t.id) list (t ∷ list)) (rest (omega (arith, n)))

-- one number more is the list without the first task of that number, where no number stands twice
unnamed-cons : (id : ℕ) (ids : List ℕ) (ts : List Task) → StandOnce ts → unnamed (id ∷ ids) ts ≡ unnamed ids (without_first (is_task id) ts)
unnamed-cons id ids [] once = refl
unnamed-cons id ids (t ∷ ts) once = at (unnamed-cons id ids ts (once-tail t ts once)) (is_task id t) (subst (λ n. n ≤ 1) (count-cons id t ts) (once id))
  where
    at : unnamed (id ∷ ids) ts ≡ unnamed ids (without_first (is_task id) ts) → (b : Bool) → cond b 1 0 + count_by (is_task id) ts ≤ 1
        → cond (b || is_named ids t.id) (unnamed (id ∷ ids) ts) (t ∷ unnamed (id ∷ ids) ts) ≡ unnamed ids (cond b ts (t ∷ without_first (is_task id) ts))
    at rest true one = unnamed-absent id ids ts (omega (arith, one))
    at rest false one = ap (λ (list : List Task). cond (is_named ids t.id) list (t ∷ list)) rest

unnamed-nil : (ts : List Task) → unnamed [] ts ≡ ts
unnamed-nil [] = refl
unnamed-nil (t ∷ ts) = ap (λ (rest : List Task). t ∷ rest) (unnamed-nil ts)

-- the best of those that aren't taken, where none is taken yet
pub untaken-none : (first : Task → Task → Bool) (ids : List ℕ) (tasks queue : List Task) → ids ≡ [] → tasks ≡ queue → best_of first (unnamed ids tasks) ≡ best_of first queue
untaken-none first ids tasks queue none same =
    ap (λ (taken : List ℕ). best_of first (unnamed taken tasks)) none ∙ (ap (best_of first) (unnamed-nil tasks) ∙ ap (best_of first) same)

-- the tasks whose numbers aren't taken are the queue as the moves left it
pub unnamed-left : (ids : List ℕ) (tasks : List Task) → StandOnce tasks → unnamed ids tasks ≡ (taken_from ids tasks).left
unnamed-left [] tasks once = unnamed-nil tasks
unnamed-left (id ∷ ids) tasks once = unnamed-cons id ids tasks once ∙ unnamed-left ids (without_first (is_task id) tasks) (once-without id tasks once)

-- the best of them is the task that its number finds
pub best-found : (first : Task → Task → Bool) (tasks : List Task) (t : Task) → StandOnce tasks → best_of first tasks ≡ Some t → find (is_task t.id) tasks ≡ Some t
best-found first tasks t once is = found_alone (is_task t.id) tasks t (best_among first tasks t is) (eq-eqb t.id t.id refl) (once t.id)

-- after a legal history no number stands twice in a queue
abbrev places_at : ℕ → ModelCore → ℕ
places_at id core = count_by (is_task id) (tasks_of core)

pub queues_once : (p : Meaning) (plan : Plan) (h : List Entry) → Fits p plan → MeetsHandlerObligations p → Legal p plan h → QueuesStandOnce plan.cores (after p plan h)
queues_once p plan h fits handlers legal c there id =
    let m = after p plan h in
    let once = (bounds_law p plan h fits handlers legal).once id in
    let here = total_has (places_at id) plan.cores m c there in
    omega (arith, once, here, total_is (places_at id) plan.cores m, sum_by-append (one_of id) (option_to_list (m c).current) (m c).queue)

-- How often the thread of a number is current or queued at a core, and how often it is blocked there, after another thread
-- came to that core or left it: exactly.
use Rattle.std.proofs.Common.{◌≡◌, ℕ, ◌+◌, eqb, Bool, List, fold, count_by, option_to_list, Some, refl, sym, ap, subst, arith}
use Rattle.std.specs.List.{AllByRecursion}
use Rattle.std.proofs.lemmas.List.Sums.{sum_by-append, sum_by_push}
use Rattle.sched_base.specs.declared.task.Task.{Task}
use Rattle.policy_tree.specs.declared.typed.Event.TheVariants as event
use Rattle.policy_tree.specs.declared.typed.Put.{Put}
use Rattle.policy_tree.specs.declared.typed.Put.TheVariants as put
use Rattle.policy_tree.specs.Meaning.{Meaning}
use Rattle.policy_eval.specs.Events.{outcomes_of}
use Rattle.policy_eval.specs.Fitting.{IsTask}
use Rattle.policy_eval.specs.Obligations.{MeetsHandlerObligations}
use Rattle.policy_eval.specs.Resolved.{IsResolved}
use Rattle.policy_eval.specs.Sites.{AllowsPut}
use Rattle.policy_eval.proofs.Kept.{outcome_kept}
use Rattle.round_model.specs.declared.state.Blocked.{Blocked}
use Rattle.round_model.specs.declared.state.ModelCore.{ModelCore}
use Rattle.round_model.specs.Cores.{tasks_of}
use Rattle.round_model.specs.Kept.{Holds}
use Rattle.round_model.specs.Moves.{admitted, blocked_of, core_after_event, handed_all, is_blocked_task, is_task, received_all, released, taken_from, with_outcome, with_task}
use Rattle.round_model.proofs.Counting.{counted}
use Rattle.round_model.proofs.Counting.{count_without}
use Rattle.round_model.proofs.Standing.{one_outcome}
use Rattle.round_model.proofs.Takings.{sum-taken}
use Rattle.round_model.proofs.Waking.{allowed_outcomes}
use Rattle.round_laws.proofs.ThreadChanges.{one_of}

-- in how many places the thread is current or queued at the core
abbrev pub places_at : ℕ → ModelCore → ℕ
places_at id core = count_by (is_task id) (tasks_of core)

-- in how many it is blocked there
abbrev pub blocked_at : ℕ → ModelCore → ℕ
blocked_at id core = count_by (is_blocked_task id) core.blocked

-- current and queued ones apart
pub places_are : (id : ℕ) (core : ModelCore) → places_at id core ≡ count_by (is_task id) (option_to_list core.current) + count_by (is_task id) core.queue
places_are id core = sum_by-append (λ (t : Task). counted (is_task id t)) (option_to_list core.current) core.queue

module _ (id : ℕ) where
  -- a thread more, or not, at the core, and no other blocked
  pub record Comes (one : ℕ) (old new : ModelCore) : Type 0 where
    pub places : places_at id new ≡ places_at id old + one
    pub blocked : blocked_at id new ≡ blocked_at id old

  -- a thread at the end of the queue
  pub queued_comes : (wake : ℕ) (t : Task) (core : ModelCore) → Comes (one_of id t.id) core (with_task put.Queue wake t core)
  queued_comes wake t core = record {
    places = omega (arith, places_are id core, places_are id (with_task put.Queue wake t core), sum_by_push (λ (x : Task). counted (is_task id x)) core.queue t);
    blocked = refl;
  }

  -- threads that were stolen come to the queue
  pub received_comes : (tasks : List Task) (core : ModelCore) → Comes (count_by (is_task id) tasks) core (received_all tasks core)
  unfolding received_all
  received_comes tasks core = record {
    places = omega (arith, places_are id core, places_are id (received_all tasks core), sum_by-append (λ (x : Task). counted (is_task id x)) core.queue tasks);
    blocked = refl;
  }

  -- they leave the other queue, and no blocked one leaves
  pub handed_places : (threads : List ℕ) (core : ModelCore)
      → places_at id (handed_all threads core) + count_by (is_task id) (taken_from threads core.queue).found ≡ places_at id core
  unfolding handed_all
  handed_places threads core =
      omega (arith, places_are id core, places_are id (handed_all threads core), sum-taken (λ (x : Task). counted (is_task id x)) threads core.queue)

  pub handed_blocked : (threads : List ℕ) (core : ModelCore) → blocked_at id (handed_all threads core) ≡ blocked_at id core
  unfolding handed_all
  handed_blocked threads core = refl

  -- a blocked thread leaves, and no other
  pub released_blocked : (thread : ℕ) (b : Blocked) (core : ModelCore) → blocked_of thread core ≡ Some b
      → blocked_at id (released thread core) + one_of id b.task.id ≡ blocked_at id core
  unfolding released
  released_blocked thread b core found = count_without (is_blocked_task id) (is_blocked_task thread) core.blocked b found

  pub released_places : (thread : ℕ) (core : ModelCore) → places_at id (released thread core) ≡ places_at id core
  unfolding released
  released_places thread core = refl

  module _ (p : Meaning) (resolved : IsResolved p) (handlers : MeetsHandlerObligations p) where
    -- the handler of such threads may put them to the queue alone
    queued_only : (place : Put) (wake : ℕ) (t : Task) (core : ModelCore) → AllowsPut event.Enqueue place → Comes (one_of id t.id) core (with_task place wake t core)
    queued_only put.Queue wake t core allowed = queued_comes wake t core
    queued_only put.Keep wake t core allowed = absurd allowed
    queued_only put.Block wake t core allowed = absurd allowed

    -- a thread that enters or wakes
    pub admitted_comes : (fresh : Bool) (t : Task) (core : ModelCore) → Holds p core → IsTask p t → Comes (one_of id t.id) core (admitted p fresh t core)
    unfolding core_after_event
    admitted_comes fresh t core holds fits =
        let one = one_outcome p (λ n. eqb n id) resolved handlers event.Enqueue fresh t core holds fits in
        let o = one.0 in
        let kept = outcome_kept p resolved event.Enqueue fresh core.consts t fits o one.1 in
        let allowed = subst (AllByRecursion (λ (x : Task × Put). AllowsPut event.Enqueue x.1)) one.1 (allowed_outcomes p resolved event.Enqueue fresh core.consts t) in
        let is : with_task o.1 0 o.0 core ≡ fold (with_outcome 0) core (outcomes_of p event.Enqueue fresh core.consts t) = sym (ap (fold (with_outcome 0) core) one.1) in
        let here = subst (λ (thread : ℕ). Comes (one_of id thread) core (with_task o.1 0 o.0 core)) kept.id (queued_only o.1 0 o.0 core allowed.0) in
        subst (Comes (one_of id t.id) core) is here

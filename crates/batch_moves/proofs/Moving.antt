-- What one move keeps, and what is known after some moves.
use Rattle.std.proofs.Common.{◌≡◌, ℕ, ◌+◌, ◌-◌, ◌<◌, ◌≤◌, ℤ, List, [], ◌∷◌, ◌++◌, length, find, IfSome, IsSome, is_some, Some, Option, option_to_list, length-append, refl, sym, ap, ap₂, subst, ◌∙◌, arith}
use Rattle.std.proofs.lemmas.List.{append-nil, append_assoc}
use Rattle.sched_base.specs.declared.task.Task.{Task}
use Rattle.policy_tree.specs.Meaning.{BatchTree, Meaning}
use Rattle.policy_eval.specs.Fitting.{IsTask}
use Rattle.policy_eval.specs.Orders.{best_of}
use Rattle.policy_eval.specs.Resolved.{IsResolved}
use Rattle.policy_eval.proofs.Wide.{thread_wide}
use Rattle.round_model.specs.declared.state.ModelCore.{ModelCore}
use Rattle.round_model.specs.Attempts.{first_of, further_moves, next_of}
use Rattle.round_model.specs.Bounds.{standing_count}
use Rattle.round_model.specs.Kept.{Holds}
use Rattle.round_model.specs.Moves.{handed, handed_all, is_task, queued_of, received, received_all, taken_from, without_first}
use Rattle.round_model.specs.Work.{before}
use Rattle.round_model.proofs.InBounds.{holds_bounds}
use Rattle.round_model.proofs.Keeping.{All-append, All-one, bounds_hold, holds_handed, queued_fits, standing_handed, standing_is}
use Rattle.round_model.proofs.Takings.{found-more, left-more, one_found, one_handed, one_received}
use Rattle.run_queue.specs.Tasks.{IsSeenTask}
use Rattle.core_state.specs.Views.{CoreView}
use Rattle.batch_moves.specs.Code.Moved.{IsMoved}
use Rattle.round_model.specs.Moves.{StandOnce}
use Rattle.batch_moves.specs.Sides.{InEachPlan, MayTake}
use Rattle.round_model.proofs.Once.{best-found, once-without}
use Rattle.round_model.proofs.MoveSteps.{moves-some, one-further}

-- the view with another core
abbrev pub with_core : CoreView → ModelCore → CoreView
with_core y core = record y { core = core }

-- the thread that was found is the best
pub next_best : (p : Meaning) (victim : CoreView) (o : Option Task) (t : Task) → o ≡ Some t → IfSome o (λ t. best_of (before p.steal) victim.core.queue ≡ Some t) → best_of (before p.steal) victim.core.queue ≡ Some t
next_best p victim o t is best = subst (λ (x : Option Task). IfSome x (λ t. best_of (before p.steal) victim.core.queue ≡ Some t)) is best

-- a thread that comes to a core within its ranges
holds_received : (p : Meaning) (t : Task) (core : ModelCore) → Holds p core → IsTask p t → Holds p (received t core)
unfolding received
holds_received p t core holds fits = record {
  current = holds.current;
  queue = All-append (IsTask p) core.queue (t ∷ []) holds.queue (All-one (IsTask p) t fits);
  blocked = holds.blocked;
  consts = holds.consts;
}

standing_received : (t : Task) (core : ModelCore) → standing_count (received t core) ≡ standing_count core + 1
unfolding received
standing_received t core = omega (arith, standing_is core, standing_is (record core { queue = core.queue ++ t ∷ [] }), length-append core.queue (t ∷ []))

queue_handed : (id : ℕ) (core : ModelCore) → (handed id core).queue ≡ without_first (is_task id) core.queue
unfolding handed
queue_handed id core = refl

module _ (p : Meaning) (thief victim : CoreView) (may : MayTake p thief victim) (t : Task) (best : best_of (before p.steal) victim.core.queue ≡ Some t) where
  -- the best thread is the one that is found, and has room at the thief
  pub is_queued : queued_of t.id victim.core ≡ Some t
  is_queued = best-found (before p.steal) victim.core.queue t may.once best

  queued_there : IsSome (queued_of t.id victim.core)
  queued_there = ap is_some is_queued

  pub task_fits : IsTask p t
  task_fits = queued_fits p t.id t victim.core (bounds_hold p victim.core may.victim_bounds) is_queued

  pub has_room : length thief.core.queue < thief.room
  has_room =
      let less = standing_handed p t.id victim.core queued_there in let room = may.room in
      omega (arith, less, room, standing_is thief.core)

  pub is_seen : IsResolved p → IsSeenTask t
  is_seen resolved = thread_wide p resolved t task_fits

  -- after its move more threads may go over
  pub may_more : (thief_now victim_now : CoreView) → thief_now ≡ with_core thief (received t thief.core) → victim_now ≡ with_core victim (handed t.id victim.core) → MayTake p thief_now victim_now
  may_more thief_now victim_now came left =
      subst (λ (y : CoreView). MayTake p y victim_now) (sym came) (subst (λ (z : CoreView). MayTake p (with_core thief (received t thief.core)) z) (sym left) after)
    where
      more : standing_count (received t thief.core) ≡ standing_count thief.core + 1
      more = standing_received t thief.core

      fewer : standing_count (handed t.id victim.core) + 1 ≤ standing_count victim.core
      fewer = standing_handed p t.id victim.core queued_there

      after : MayTake p (with_core thief (received t thief.core)) (with_core victim (handed t.id victim.core))
      after = record {
        thief_bounds = holds_bounds p (received t thief.core) (holds_received p t thief.core (bounds_hold p thief.core may.thief_bounds) task_fits)
            (let room = may.room in let few = may.few in omega (arith, more, fewer, room, few));
        victim_bounds = holds_bounds p (handed t.id victim.core) (holds_handed p t.id victim.core (bounds_hold p victim.core may.victim_bounds))
            (let room = may.room in let few = may.few in omega (arith, fewer, room, few));
        room = let room = may.room in omega (arith, more, fewer, room);
        few = may.few;
        once = subst StandOnce (sym (queue_handed t.id victim.core)) (once-without t.id victim.core.queue may.once);
      }

-- before the first move
pub none_come : (thief : CoreView) (queue : List Task) (ids : List ℕ) → ids ≡ [] → thief ≡ with_core thief (received_all (taken_from ids queue).found thief.core)
unfolding received_all
none_come thief queue ids none =
    ap (λ (tasks : List Task). with_core thief (record (thief.core) { queue = tasks })) (sym (append-nil thief.core.queue))
    ∙ ap (λ (ids : List ℕ). with_core thief (received_all (taken_from ids queue).found thief.core)) (sym none)

pub none_leave : (victim : CoreView) (ids : List ℕ) → ids ≡ [] → victim ≡ with_core victim (handed_all ids victim.core)
unfolding handed_all
none_leave victim ids none = ap (λ (ids : List ℕ). with_core victim (handed_all ids victim.core)) (sym none)

-- one thread more comes, and leaves
come_more : (ids : List ℕ) (t : Task) (thief victim : ModelCore) → find (is_task t.id) (taken_from ids victim.queue).left ≡ Some t
    → received t (received_all (taken_from ids victim.queue).found thief) ≡ received_all (taken_from (ids ++ t.id ∷ []) victim.queue).found thief
unfolding received received_all
come_more ids t thief victim found =
    ap (λ (queue : List Task). let core : ModelCore = record thief { queue = queue } in core)
    (append_assoc thief.queue (taken_from ids victim.queue).found (t ∷ [])
    ∙ ap (λ (list : List Task). thief.queue ++ list)
    (sym (found-more ids t.id victim.queue ∙ ap (λ (o : Option Task). (taken_from ids victim.queue).found ++ option_to_list o) found)))

leave_more : (ids : List ℕ) (id : ℕ) (victim : ModelCore) → handed id (handed_all ids victim) ≡ handed_all (ids ++ id ∷ []) victim
unfolding handed handed_all
leave_more ids id victim = ap (λ (queue : List Task). let core : ModelCore = record victim { queue = queue } in core) (sym (left-more ids id victim.queue))

queue_left : (ids : List ℕ) (core : ModelCore) → (handed_all ids core).queue ≡ (taken_from ids core.queue).left
unfolding handed_all
queue_left ids core = refl

module _ (p : Meaning) (own other : List ℤ) (thief victim : CoreView) where
  -- what is known after the first move
  module _ (may : MayTake p thief victim) (t : Task) (best : best_of (before p.steal) victim.core.queue ≡ Some t) (thief_now victim_now : CoreView)
      (came : thief_now ≡ with_core thief (received t thief.core)) (left : victim_now ≡ with_core victim (handed t.id victim.core)) where
    pub first_come : thief_now ≡ with_core thief (received_all (taken_from (t.id ∷ []) victim.core.queue).found thief.core)
    first_come =
        came ∙ ap (with_core thief) (sym (ap (λ (found : List Task). received_all found thief.core) (one_found t.id t victim.core (is_queued p thief victim may t best)) ∙ one_received t thief.core))

    pub first_left : victim_now ≡ with_core victim (handed_all (t.id ∷ []) victim.core)
    first_left = left ∙ ap (with_core victim) (sym (one_handed t.id victim.core))

    pub first_moved : (b : BatchTree) → InEachPlan own other (λ plan a v. Some t ≡ first_of p plan a v thief.core victim.core)
        → IsMoved p b own other thief victim 1 (t.id ∷ []) thief_now victim_now
    first_moved b first = record {
      moves = λ plan a v own_is other_is.
          moves-some p plan a v (Some b) thief.core victim.core t (sym (first plan a v own_is other_is))
          ∙ ap₂ (λ (x y : CoreView). t.id ∷ further_moves p plan a v b (b.limit - 1) x.core y.core) (sym came) (sym left);
      count = refl;
      is_thief = first_come;
      is_victim = first_left;
      may = may_more p thief victim may t best thief_now victim_now came left;
    }

  -- and after one more
  module _ (b : BatchTree) (at : ℕ) (stolen : List ℕ) (thief_now victim_now : CoreView) (is : IsMoved p b own other thief victim at stolen thief_now victim_now)
      (t : Task) (best : best_of (before p.steal) victim_now.core.queue ≡ Some t) where
    left_found : find (is_task t.id) (taken_from stolen victim.core.queue).left ≡ Some t
    left_found =
        ap (find (is_task t.id)) (sym (ap (λ (y : CoreView). y.core.queue) is.is_victim ∙ queue_left stolen victim.core))
        ∙ is_queued p thief_now victim_now is.may t best

    pub more_moved : at < b.limit → InEachPlan own other (λ plan a v. Some t ≡ next_of p plan a v b thief_now.core victim_now.core) → (thief_then victim_then : CoreView)
        → thief_then ≡ with_core thief_now (received t thief_now.core) → victim_then ≡ with_core victim_now (handed t.id victim_now.core)
        → IsMoved p b own other thief victim (at + 1) (stolen ++ t.id ∷ []) thief_then victim_then
    more_moved more next thief_then victim_then came left = record {
      moves = λ plan a v own_is other_is.
          one-further p plan a v b _ stolen thief_now.core victim_now.core at t (is.moves plan a v own_is other_is) more (sym (next plan a v own_is other_is))
          ∙ ap₂ (λ (x y : CoreView). (stolen ++ t.id ∷ []) ++ further_moves p plan a v b (b.limit - (at + 1)) x.core y.core) (sym came) (sym left);
      count = length-append stolen (t.id ∷ []) ∙ ap (λ n. n + 1) is.count;
      is_thief = came ∙ (ap (λ (y : CoreView). with_core y (received t y.core)) is.is_thief ∙ ap (with_core thief) (come_more stolen t thief.core victim.core left_found));
      is_victim = left ∙ (ap (λ (y : CoreView). with_core y (handed t.id y.core)) is.is_victim ∙ ap (with_core victim) (leave_more stolen t.id victim.core));
      may = may_more p thief_now victim_now is.may t best thief_then victim_then came left;
    }

-- The task that runs next, taken out of its core.
use Rattle.std.proofs.Common.{◌≡◌, ℕ, suc, Bool, true, false, cond, List, [], ◌∷◌, ◌++◌, length, Contains, MatchOption, Option, Some, None, option_map, option_to_list, refl, sym, ap, subst, ◌∙◌, arith}
use Rattle.std.proofs.lemmas.List.{length-append}
use Rattle.std.proofs.lemmas.Option.{get_or_from_slice_get, slice_get_within}
use Rattle.sched_base.specs.declared.task.Place.{Place}
use Rattle.sched_base.specs.declared.task.Task.{Task}
use Rattle.policy_tree.specs.Meaning.{KeyTree, Meaning}
use Rattle.policy_eval.specs.Orders.{best_and_rest, best_of, better_and_rest}
use Rattle.policy_eval.proofs.Best.{best_and_rest-best}
use Rattle.round_model.specs.declared.plan.Burst.{Burst}
use Rattle.round_model.specs.declared.plan.Plan.{Plan}
use Rattle.round_model.specs.declared.state.Blocked.{Blocked}
use Rattle.round_model.specs.declared.state.ModelCore.{ModelCore}
use Rattle.round_model.specs.Programs.{Meeting, burst_of, meeting_of, place_after}
use Rattle.round_model.specs.Work.{Worked, after_meeting, after_unit, core_after_work, elected, elected_over, run_over, with_current, worked}
use Rattle.run_queue.specs.Tasks.{before, others_of, rest_of_best}
use Rattle.run_queue.proofs.Best.{best_among}
use Rattle.core_state.specs.Code.Steps.{HasNoNext, TakesNext}
use Rattle.core_state.specs.Views.{CoreView, HasRoom, HasRoomForAll}

module _ {X : Type 0} (first : X → X → Bool) where
  -- with a best there are others beside it, one fewer
  pub fewer_others : (xs : List X) (best : X × List X) → best_and_rest first xs ≡ Some best → suc (length best.1) ≡ length xs
  fewer_others [] best is = absurd (cc)
  fewer_others (x ∷ xs) best is = of (best_and_rest first xs) (λ later here. fewer_others xs later here) is
    where
      chosen : (b : Bool) (later : X × List X) → suc (length later.1) ≡ length xs → Some (cond b (later.0, x ∷ later.1) (x, xs)) ≡ Some best → suc (length best.1) ≡ suc (length xs)
      chosen true later fewer e = let same : (later.0, x ∷ later.1) ≡ best = cc in sym (ap (λ (pair : X × List X). suc (length pair.1)) same) ∙ ap suc fewer
      chosen false later fewer e = let same : (x, xs) ≡ best = cc in sym (ap (λ (pair : X × List X). suc (length pair.1)) same)

      of : (o : Option (X × List X)) → ((later : X × List X) → o ≡ Some later → suc (length later.1) ≡ length xs) → Some (better_and_rest first x xs o) ≡ Some best → suc (length best.1) ≡ suc (length xs)
      of None fewer e = let same : (x, xs) ≡ best = cc in sym (ap (λ (pair : X × List X). suc (length pair.1)) same)
      of (Some later) fewer e = chosen (first later.0 x) later (fewer later refl) e

  -- the best with the others beside it
  pub best_pair : (xs : List X) (x : X) → best_of first xs ≡ Some x → best_and_rest first xs ≡ Some (x, others_of (best_and_rest first xs))
  best_pair xs x is = pair_of (best_and_rest first xs) (best_and_rest-best first xs ∙ is)
    where
      pair_of : (o : Option (X × List X)) → option_map (λ (best : X × List X). best.0) o ≡ Some x → o ≡ Some (x, others_of o)
      pair_of None e = absurd (cc)
      pair_of (Some best) e = let same : best.0 ≡ x = cc in ap (λ y. Some (y, best.1)) same

  -- the best is one of the items
  pub best_there : (xs : List X) (best : X × List X) → best_and_rest first xs ≡ Some best → Contains xs best.0
  best_there xs best is = best_among first (Contains xs) xs (λ k y at. (k, slice_get_within xs k y at, get_or_from_slice_get xs k y y at)) best is

no_best : (first : Task → Task → Bool) (queue : List Task) → best_of first queue ≡ None → queue ≡ []
no_best first [] is = refl
no_best first (t ∷ queue) is = absurd (cc)

-- one of the queued tasks is one of all
among_all : (current : Option Task) (queue : List Task) (t : Task) → current ≡ None → Contains queue t → Contains (option_to_list current ++ queue) t
among_all current queue t none there = subst (λ (o : Option Task). Contains (option_to_list o ++ queue) t) (sym none) there

-- the best of the queue is taken, where no task is current
pub next_of_queue : (old new : CoreView) (found : Option Task) → old.core.current ≡ None → found ≡ best_of (before old.order) old.core.queue
    → new ≡ record old { core = record (old.core) { current = None; queue = rest_of_best (before old.order) old.core.queue } }
    → MatchOption found (HasNoNext old new) (TakesNext old new)
next_of_queue old new None idle best is =
    let empty = no_best (before old.order) old.core.queue (sym best) in
    record {
      current = idle;
      queue = empty;
      same = is
          ∙ (ap (λ (queue : List Task). let v : CoreView = record old { core = record (old.core) { current = None; queue = rest_of_best (before old.order) queue } } in v) empty
          ∙ (ap (λ (queue : List Task). let v : CoreView = record old { core = record (old.core) { current = None; queue = queue } } in v) (sym empty)
          ∙ ap (λ (current : Option Task). let v : CoreView = record old { core = record (old.core) { current = current } } in v) (sym idle)));
    }
next_of_queue old new (Some t) idle best is =
    let queue = old.core.queue in
    let rest = rest_of_best (before old.order) queue in
    let pair = best_pair (before old.order) queue t (sym best) in
    let chosen : (p : Meaning) → p.elect ≡ old.order → elected p old.core ≡ record (old.core) { current = Some t; queue = rest } = λ p same.
    ap (elected_over p old.core) idle
    ∙ (ap (λ (keys : List KeyTree). with_current old.core (best_and_rest (before keys) queue)) same ∙ ap (with_current old.core) pair) in
    let fewer = fewer_others (before old.order) queue (t, rest) pair in
    let queues : new.core.queue ≡ rest = ap (λ (v : CoreView). v.core.queue) is in
    let blockeds : new.core.blocked ≡ old.core.blocked = ap (λ (v : CoreView). v.core.blocked) is in
    let queued : length new.core.queue ≡ length rest = ap (λ (tasks : List Task). length tasks) queues in
    let blocked : length new.core.blocked ≡ length old.core.blocked = ap (λ (list : List Blocked). length list) blockeds in
    let all = length-append (option_to_list old.core.current) queue in
    record {
      runs = λ p same. ap (λ (core : ModelCore). core.current) (chosen p same);
      leaves = λ p same. is ∙ ap (λ (core : ModelCore). let v : CoreView = record old { core = record core { current = None } } in v) (sym (chosen p same));
      there = among_all old.core.current queue t idle (best_there (before old.order) queue (t, rest) pair);
      fewer_queued = omega arith;
      fewer_blocked = omega arith;
    }

elected_consts : (p : Meaning) (core : ModelCore) → (elected p core).consts ≡ core.consts
elected_consts p core = of core.current
  where
    queued : (o : Option (Task × List Task)) → (with_current core o).consts ≡ core.consts
    queued None = refl
    queued (Some best) = refl

    of : (o : Option Task) → (elected_over p core o).consts ≡ core.consts
    of None = queued (best_and_rest _ core.queue)
    of (Some t) = refl

module _ (old new : CoreView) (t : Task) (next : TakesNext old new t) (p : Meaning) (same : p.elect ≡ old.order) where
  pub next_consts : new.core.consts ≡ old.core.consts
  next_consts = ap (λ (v : CoreView). v.core.consts) (next.leaves p same) ∙ elected_consts p old.core

  pub next_room : HasRoomForAll old → HasRoom new
  next_room room =
      let rooms : new.room ≡ old.room = ap (λ (v : CoreView). v.room) (next.leaves p same) in
      let blocked_rooms : new.blocked_room ≡ old.blocked_room = ap (λ (v : CoreView). v.blocked_room) (next.leaves p same) in
      let a = next.fewer_queued in let b = next.fewer_blocked in let c = room.queue in let d = room.blocked in
      record { queue = omega arith; blocked = omega arith }

  -- what a unit of the task comes to
  pub worked_next : (plan : Plan) (round : ℕ) (b : Burst) → burst_of plan t ≡ Some b
      → worked p plan round old.core ≡ after_meeting p round (meeting_of b t.place) (record t { place = place_after b t.place }) new.core
  unfolding worked
  worked_next plan round b is =
      ap (run_over p plan round (elected p old.core)) (next.runs p same)
      ∙ (ap (after_unit p round (elected p old.core) t) is
      ∙ ap (λ (v : CoreView). after_meeting p round (meeting_of b t.place) (record t { place = place_after b t.place }) v.core) (sym (next.leaves p same)))

  -- the core after the unit
  pub unit_ends : (plan : Plan) (round : ℕ) (w : Worked) → worked p plan round old.core ≡ w → (after : CoreView) → after ≡ record new { core = w.core }
      → after ≡ record old { core = core_after_work p plan round old.core }
  unit_ends plan round w is after ends =
      ends
      ∙ (ap (λ (v : CoreView). let u : CoreView = record v { core = w.core } in u) (next.leaves p same)
      ∙ ap (λ (x : Worked). let u : CoreView = record old { core = x.core } in u) (sym is))

  -- the same, as the code finds the thread's next place and what it meets
  pub worked_meeting : (plan : Plan) (round : ℕ) (b : Burst) → burst_of plan t ≡ Some b → (place : Place) → place ≡ place_after b t.place
      → (m : Meeting) → meeting_of b t.place ≡ m → worked p plan round old.core ≡ after_meeting p round m (record t { place = place }) new.core
  worked_meeting plan round b is place placed m meets =
      worked_next plan round b is
      ∙ (ap (λ meeting. after_meeting p round meeting (record t { place = place_after b t.place }) new.core) meets
      ∙ ap (λ (at : Place). after_meeting p round m (record t { place = at }) new.core) (sym placed))

-- What a unit of work makes of the thread of a number at its core is what the entry's word says: the thread that ran was
-- current, it is put once, and nothing else may be said of it.
use Rattle.std.proofs.Common.{◌≡◌, ℕ, zero, suc, ◌+◌, eqb, false, List, [], ◌∷◌, fold, map, count_by, option_to_list, Contains, IfSome, Option, Some, None, refl, sym, ap, subst, arith}
use Rattle.std.proofs.lemmas.List.Sums.{sum_by_push}
use Rattle.sched_base.specs.declared.task.Task.{Task}
use Rattle.policy_tree.specs.declared.typed.Event.{Event}
use Rattle.policy_tree.specs.declared.typed.Event.TheVariants as event
use Rattle.policy_tree.specs.declared.typed.Put.{Put}
use Rattle.policy_tree.specs.declared.typed.Put.TheVariants as put
use Rattle.policy_tree.specs.Meaning.{Meaning}
use Rattle.policy_eval.specs.Fitting.{IsTask}
use Rattle.policy_eval.specs.Obligations.{MeetsHandlerObligations}
use Rattle.policy_eval.specs.Orders.{best_and_rest}
use Rattle.policy_eval.specs.Resolved.{IsResolved}
use Rattle.policy_eval.proofs.Kept.{outcome_kept}
use Rattle.round_model.specs.declared.entry.Did.{Did}
use Rattle.round_model.specs.declared.entry.Did.TheVariants as did
use Rattle.round_model.specs.declared.plan.Burst.{Burst}
use Rattle.round_model.specs.declared.plan.Plan.{Plan}
use Rattle.round_model.specs.declared.state.Blocked.{Blocked}
use Rattle.round_model.specs.declared.state.ModelCore.{ModelCore}
use Rattle.round_model.specs.Kept.{Holds}
use Rattle.round_model.specs.Moves.{core_after_event, is_blocked_task, is_task, with_outcome, with_task}
use Rattle.round_model.specs.Programs.{Meeting, blocking, burst_of, ending_now, meeting_of, place_after, tick, yielding}
use Rattle.round_model.specs.Work.{IsOutcomeOfWork, after_meeting, after_unit, before, core_after_work, did_of, elected, elected_over, met, run_over, with_current, worked}
use Rattle.round_model.proofs.Counting.{counted}
use Rattle.round_model.proofs.Counting.{Split, best_split}
use Rattle.round_model.proofs.Standing.{one_outcome}
use Rattle.round_laws.proofs.ThreadChanges.{AsSaid, one_of}
use Rattle.round_laws.proofs.CountedPlaces.{blocked_at, places_are, places_at, queued_comes}

-- the one item of a list of one
only_one : {X : Type 0} (x y : X) → Contains (x ∷ []) y → y ≡ x
only_one x y (zero, inside, is) = sym is
only_one x y (suc k, inside, is) = absurd (omega arith)

no_item : {X : Type 0} (y : X) → Contains [] y → ⊥
no_item y (k, inside, is) = omega arith

module _ (id : ℕ) where
  -- what the word says of the change from a core with so many places of the thread to another core
  abbrev IsSaid : Did → (stood : ℕ) → (old new : ModelCore) → Type 0
  IsSaid what stood old new = AsSaid id what stood (blocked_at id old) (places_at id new) (blocked_at id new)

  -- a thread that stands nowhere is put to a core without a current thread
  put_said : (place : Put) (wake : ℕ) (t : Task) (thread : ℕ) (core : ModelCore) → core.current ≡ None → t.id ≡ thread
      → IsSaid (did_of thread (t, place)) (places_at id core + one_of id thread) core (with_task place wake t core)
  put_said put.Queue wake t thread core free named =
      let comes = queued_comes id wake t core in
      let same : one_of id t.id ≡ one_of id thread = ap (one_of id) named in
      record { stood = omega arith; places = omega (arith, comes.places); blocked = comes.blocked }
  put_said put.Keep wake t thread core free named =
      let same : one_of id t.id ≡ one_of id thread = ap (one_of id) named in
      let nobody = ap (λ (o : Option Task). count_by (is_task id) (option_to_list o)) free in
      record { stood = omega arith; places = omega (arith, places_are id core, places_are id (with_task put.Keep wake t core)); blocked = refl }
  put_said put.Block wake t thread core free named =
      let same : one_of id t.id ≡ one_of id thread = ap (one_of id) named in
      record { places = refl; blocked = omega (arith, sum_by_push (λ (b : Blocked). counted (is_blocked_task id b)) core.blocked (record { task = t; wake = wake })) }

  -- the best of the queue becomes current where nobody is
  record IsElected (p : Meaning) (core mid : ModelCore) : Type 0 where
    holds : Holds p mid
    places : places_at id mid ≡ places_at id core
    blocked : blocked_at id mid ≡ blocked_at id core

  election : (p : Meaning) (core : ModelCore) → Holds p core → IsElected p core (elected p core)
  election p core holds = by_current core.current refl
    where
      by_best : core.current ≡ None → (best : Option (Task × List Task)) → IfSome best (Split (IsTask p) (is_task id) core.queue) → IsElected p core (with_current core best)
      by_best none None split = record { holds = holds; places = refl; blocked = refl }
      by_best none (Some best) split = record {
        holds = record { current = split.best holds.queue; queue = split.others holds.queue; blocked = holds.blocked; consts = holds.consts };
        places =
            let nobody = ap (λ (o : Option Task). count_by (is_task id) (option_to_list o)) none in
            let same = split.count in
            omega (arith, places_are id core, places_are id (with_current core (Some best)));
        blocked = refl;
      }

      by_current : (current : Option Task) → core.current ≡ current → IsElected p core (elected_over p core current)
      by_current None is = by_best is (best_and_rest (before p.elect) core.queue) (best_split (IsTask p) (is_task id) (before p.elect) core.queue)
      by_current (Some t) is = record { holds = holds; places = refl; blocked = refl }

  module _ (p : Meaning) (resolved : IsResolved p) (handlers : MeetsHandlerObligations p) where
    -- what comes of an event
    event_said : (e : Event) (wake : ℕ) (t : Task) (core : ModelCore) → core.current ≡ None → Holds p core → IsTask p t → (what : Did) → Contains (met p e wake t core).dids what
        → IsSaid what (places_at id core + one_of id t.id) core (met p e wake t core).core
    unfolding core_after_event
    event_said e wake t core free holds fits what said =
        let one = one_outcome p (λ n. eqb n id) resolved handlers e false t core holds fits in
        let o = one.0 in
        let kept = outcome_kept p resolved e false core.consts t fits o one.1 in
        subst (λ (outcomes : List (Task × Put)). Contains (map (did_of t.id) outcomes) what → IsSaid what (places_at id core + one_of id t.id) core (fold (with_outcome wake) core outcomes)) (sym one.1)
        (λ (has : Contains (did_of t.id o ∷ []) what).
        subst (λ (d : Did). IsSaid d (places_at id core + one_of id t.id) core (with_task o.1 wake o.0 core)) (sym (only_one (did_of t.id o) what has))
        (put_said o.1 wake o.0 t.id core free kept.id))
        said

    meeting_said : (round : ℕ) (meeting : Meeting) (t : Task) (core : ModelCore) → core.current ≡ None → Holds p core → IsTask p t → (what : Did)
        → Contains (after_meeting p round meeting t core).dids what → IsSaid what (places_at id core + one_of id t.id) core (after_meeting p round meeting t core).core
    meeting_said round tick t core free holds fits what said = event_said event.Tick 0 t core free holds fits what said
    meeting_said round yielding t core free holds fits what said = event_said event.Yield 0 t core free holds fits what said
    meeting_said round (blocking rounds) t core free holds fits what said = event_said event.Block (round + rounds) t core free holds fits what said
    meeting_said round ending_now t core free holds fits what said =
        subst (λ (d : Did). IsSaid d (places_at id core + one_of id t.id) core core) (sym (only_one (did.Ended t.id) what said)) (record { places = refl; blocked = refl })

    -- a unit, after the core elected
    unit_said : (round : ℕ) (mid : ModelCore) → Holds p mid → (t : Task) → mid.current ≡ Some t → (b : Option Burst) (what : Did)
        → Contains (after_unit p round mid t b).dids what → IsSaid what (places_at id mid) mid (after_unit p round mid t b).core
    unit_said round mid holds t is None what said = absurd (no_item what said)
    unit_said round mid holds t is (Some b) what said =
        let left : ModelCore = record mid { current = None } in
        let ran : Task = record t { place = place_after b t.place } in
        let fits : IsTask p t = subst (λ (o : Option Task). IfSome o (IsTask p)) is holds.current in
        let without : Holds p left = record { current = tt; queue = holds.queue; blocked = holds.blocked; consts = holds.consts } in
        let here = ap (λ (o : Option Task). count_by (is_task id) (option_to_list o)) is in
        let stood : places_at id left + one_of id t.id ≡ places_at id mid = omega (arith, places_are id mid, places_are id left) in
        subst (λ (n : ℕ). IsSaid what n mid (after_unit p round mid t (Some b)).core) stood
        (meeting_said round (meeting_of b t.place) ran left refl without (record { weight = fits.weight; attrs = fits.attrs }) what said)

    run_said : (plan : Plan) (round : ℕ) (mid : ModelCore) → Holds p mid → (current : Option Task) → mid.current ≡ current → (what : Did)
        → Contains (run_over p plan round mid current).dids what → IsSaid what (places_at id mid) mid (run_over p plan round mid current).core
    run_said plan round mid holds None is what said =
        subst (λ (d : Did). IsSaid d (places_at id mid) mid mid) (sym (only_one did.Nothing what said)) (record { places = refl; blocked = refl })
    run_said plan round mid holds (Some t) is what said = unit_said round mid holds t is (burst_of plan t) what said

    -- a unit of work does with the thread what is said of it
    pub work_said : (plan : Plan) (round : ℕ) (core : ModelCore) → Holds p core → (what : Did) → IsOutcomeOfWork p plan round core what
        → AsSaid id what (places_at id core) (blocked_at id core) (places_at id (core_after_work p plan round core)) (blocked_at id (core_after_work p plan round core))
    unfolding worked
    work_said plan round core holds what said =
        let mid = elected p core in
        let by = election p core holds in
        let new = (run_over p plan round mid mid.current).core in
        subst (λ (n : ℕ). AsSaid id what n (blocked_at id core) (places_at id new) (blocked_at id new)) by.places
        (subst (λ (n : ℕ). AsSaid id what (places_at id mid) n (places_at id new) (blocked_at id new)) by.blocked (run_said plan round mid by.holds mid.current refl what said))

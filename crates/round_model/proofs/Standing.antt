-- What one core has after a change of it: numbers in their ranges, and no more threads of any numbers than it had.
use Rattle.std.proofs.Common.{◌≡◌, ℕ, ◌+◌, ◌≤◌, Bool, false, List, [], ◌∷◌, length, fold, map, count_by, option_to_list, IfSome, Option, Some, None, refl, sym, ap, ◌∙◌, subst, arith}
use Rattle.std.proofs.lemmas.List.{length-map}
use Rattle.std.proofs.lemmas.List.Sums.{sum_by-append, sum_by_push}
use Rattle.sched_base.specs.declared.task.Task.{Task}
use Rattle.policy_tree.specs.declared.typed.Event.{Event}
use Rattle.policy_tree.specs.declared.typed.Event.TheVariants as event
use Rattle.policy_tree.specs.declared.typed.Put.{Put}
use Rattle.policy_tree.specs.declared.typed.Put.TheVariants as put
use Rattle.policy_tree.specs.Meaning.{Meaning}
use Rattle.policy_eval.specs.Events.{holding_cases, outcome_of_case, outcomes_of}
use Rattle.policy_eval.specs.Fitting.{IsTask}
use Rattle.policy_eval.specs.Obligations.{MeetsHandlerObligations}
use Rattle.policy_eval.specs.Orders.{best_and_rest}
use Rattle.policy_eval.specs.Resolved.{IsResolved}
use Rattle.policy_eval.proofs.Kept.{outcome_kept}
use Rattle.round_model.specs.declared.plan.Burst.{Burst}
use Rattle.round_model.specs.declared.plan.Plan.{Plan}
use Rattle.round_model.specs.declared.state.Blocked.{Blocked}
use Rattle.round_model.specs.declared.state.ModelCore.{ModelCore}
use Rattle.round_model.specs.BoundsLaws.{named_count}
use Rattle.round_model.specs.Kept.{Holds}
use Rattle.round_model.specs.Moves.{blocked_of, core_after_event, handed_all, is_blocked_task, received_all, released, taken_from, with_outcome, with_task}
use Rattle.round_model.specs.Programs.{Meeting, blocking, burst_of, ending_now, meeting_of, place_after, tick, yielding}
use Rattle.round_model.specs.Work.{after_meeting, after_unit, before, core_after_work, elected, elected_over, run_over, with_current, worked}
use Rattle.round_model.proofs.Counting.{counted}
use Rattle.round_model.proofs.Counting.{Split, best_split, count_without}
use Rattle.round_model.proofs.Keeping.{holds_put}
use Rattle.round_model.proofs.Takings.{sum-taken}

-- the one item of a list of one
only_item : {X : Type 0} (xs : List X) → length xs ≡ 1 → (x : X) × (xs ≡ x ∷ [])
only_item [] one = absurd (omega arith)
only_item (x ∷ []) one = (x, refl)
only_item (x ∷ y ∷ ys) one = absurd (omega arith)

-- whether a thread has one of the numbers
abbrev pub has_name : (ℕ → Bool) → Task → Bool
has_name named t = named t.id

abbrev pub blocked_name : (ℕ → Bool) → Blocked → Bool
blocked_name named b = named b.task.id

-- list by list
pub named_is : (named : ℕ → Bool) (core : ModelCore) → named_count named core
    ≡ count_by (has_name named) (option_to_list core.current) + count_by (has_name named) core.queue + count_by (blocked_name named) core.blocked
named_is named core =
    ap (λ n. n + count_by (blocked_name named) core.blocked) (sum_by-append (λ (t : Task). counted (named t.id)) (option_to_list core.current) core.queue)

module _ (p : Meaning) (named : ℕ → Bool) where
  put_count : (place : Put) (wake : ℕ) (t : Task) (core : ModelCore) → named_count named (with_task place wake t core) ≤ named_count named core + counted (named t.id)
  put_count put.Queue wake t core =
      omega (arith, named_is named core, named_is named (with_task put.Queue wake t core), sum_by_push (λ (x : Task). counted (named x.id)) core.queue t)
  put_count put.Keep wake t core = omega (arith, named_is named core, named_is named (with_task put.Keep wake t core))
  put_count put.Block wake t core =
      omega (arith, named_is named core, named_is named (with_task put.Block wake t core), sum_by_push (λ (b : Blocked). counted (named b.task.id)) core.blocked (record { task = t; wake = wake }))

  pub released_count : (id : ℕ) (b : Blocked) (core : ModelCore) → blocked_of id core ≡ Some b → named_count named (released id core) + counted (named b.task.id) ≡ named_count named core
  unfolding released
  released_count id b core found =
      omega (arith, named_is named core, named_is named (released id core), count_without (blocked_name named) (is_blocked_task id) core.blocked b found)

  -- the threads that a list of numbers takes, and those that come
  pub handed_count : (ids : List ℕ) (core : ModelCore)
      → named_count named (handed_all ids core) + count_by (has_name named) (taken_from ids core.queue).found ≡ named_count named core
  unfolding handed_all
  handed_count ids core =
      omega (arith, named_is named core, named_is named (handed_all ids core), sum-taken (λ (x : Task). counted (named x.id)) ids core.queue)

  pub received_count : (tasks : List Task) (core : ModelCore)
      → named_count named (received_all tasks core) ≤ named_count named core + count_by (has_name named) tasks
  unfolding received_all
  received_count tasks core =
      omega (arith, named_is named core, named_is named (received_all tasks core), sum_by-append (λ (x : Task). counted (named x.id)) core.queue tasks)

  -- what a change makes of a core to which a thread comes that weighs so much
  pub record Gains (more : ℕ) (old new : ModelCore) : Type 0 where
    pub holds : Holds p new
    pub count : named_count named new ≤ named_count named old + more

  module _ (resolved : IsResolved p) (handlers : MeetsHandlerObligations p) where
    -- exactly one case holds
    pub one_outcome : (e : Event) (fresh : Bool) (t : Task) (core : ModelCore) → Holds p core → IsTask p t
        → (o : Task × Put) × (outcomes_of p e fresh core.consts t ≡ o ∷ [])
    unfolding outcomes_of
    one_outcome e fresh t core holds fits =
        let low = handlers.no_gap e fresh core.consts t holds.consts fits in
        let high = handlers.no_overlap e fresh core.consts t holds.consts fits in
        only_item (map (outcome_of_case p fresh core.consts t) (holding_cases p e fresh core.consts t))
        (length-map (holding_cases p e fresh core.consts t) (outcome_of_case p fresh core.consts t) ∙ omega arith)

    -- an event puts its thread once
    pub event_gains : (e : Event) (fresh : Bool) (wake : ℕ) (t : Task) (core : ModelCore) → Holds p core → IsTask p t
        → Gains (counted (named t.id)) core (core_after_event p e fresh wake t core)
    unfolding core_after_event
    event_gains e fresh wake t core holds fits =
        let one = one_outcome e fresh t core holds fits in
        let o = one.0 in
        let kept = outcome_kept p resolved e fresh core.consts t fits o one.1 in
        let is : with_task o.1 wake o.0 core ≡ fold (with_outcome wake) core (outcomes_of p e fresh core.consts t) = sym (ap (fold (with_outcome wake) core) one.1) in
        let same : counted (named o.0.id) ≡ counted (named t.id) = ap (λ id. counted (named id)) kept.id in
        subst (Gains (counted (named t.id)) core) is (record {
          holds = holds_put p o.1 wake o.0 core holds kept.task;
          count = let bound = put_count o.1 wake o.0 core in omega arith;
        })

    -- a thread becomes current
    pub elected_gains : (core : ModelCore) → Holds p core → Gains 0 core (elected p core)
    elected_gains core holds = by_current core.current refl
      where
        by_best : core.current ≡ None → (best : Option (Task × List Task)) → IfSome best (Split (IsTask p) (has_name named) core.queue) → Gains 0 core (with_current core best)
        by_best none None split = record { holds = holds; count = omega arith }
        by_best none (Some best) split = record {
          holds = record { current = split.best holds.queue; queue = split.others holds.queue; blocked = holds.blocked; consts = holds.consts };
          count =
              let nobody = ap (λ (o : Option Task). count_by (has_name named) (option_to_list o)) none in
              let same = split.count in
              omega (arith, named_is named core, named_is named (with_current core (Some best)));
        }

        by_current : (current : Option Task) → core.current ≡ current → Gains 0 core (elected_over p core current)
        by_current None is = by_best is (best_and_rest (before p.elect) core.queue) (best_split (IsTask p) (has_name named) (before p.elect) core.queue)
        by_current (Some t) is = record { holds = holds; count = omega arith }

    -- what the current thread meets, taken from its place
    meeting_gains : (round : ℕ) (meeting : Meeting) (t : Task) (core : ModelCore) → Holds p core → IsTask p t
        → Gains (counted (named t.id)) core (after_meeting p round meeting t core).core
    meeting_gains round tick t core holds fits = event_gains event.Tick false 0 t core holds fits
    meeting_gains round yielding t core holds fits = event_gains event.Yield false 0 t core holds fits
    meeting_gains round (blocking rounds) t core holds fits = event_gains event.Block false (round + rounds) t core holds fits
    meeting_gains round ending_now t core holds fits = record { holds = holds; count = omega arith }

    -- a unit
    pub work_gains : (plan : Plan) (round : ℕ) (core : ModelCore) → Holds p core → Gains 0 core (core_after_work p plan round core)
    unfolding worked
    work_gains plan round core holds = after_election (elected p core) (elected_gains core holds)
      where
        unit_gains : (mid : ModelCore) → Gains 0 core mid → (t : Task) → mid.current ≡ Some t → (b : Option Burst) → Gains 0 core (after_unit p round mid t b).core
        unit_gains mid gains t is None = gains
        unit_gains mid gains t is (Some b) =
            let left : ModelCore = record mid { current = None } in
            let ran : Task = record t { place = place_after b t.place } in
            let fits : IsTask p t = subst (λ (o : Option Task). IfSome o (IsTask p)) is gains.holds.current in
            let without : Holds p left = record { current = tt; queue = gains.holds.queue; blocked = gains.holds.blocked; consts = gains.holds.consts } in
            let met = meeting_gains round (meeting_of b t.place) ran left without (record { weight = fits.weight; attrs = fits.attrs }) in
            let here = ap (λ (o : Option Task). count_by (has_name named) (option_to_list o)) is in
            record { holds = met.holds; count = let one = met.count in let two = gains.count in omega (arith, named_is named mid, named_is named left) }

        run_gains : (mid : ModelCore) → Gains 0 core mid → (current : Option Task) → mid.current ≡ current → Gains 0 core (run_over p plan round mid current).core
        run_gains mid gains None is = gains
        run_gains mid gains (Some t) is = unit_gains mid gains t is (burst_of plan t)

        after_election : (mid : ModelCore) → Gains 0 core mid → Gains 0 core (run_over p plan round mid mid.current).core
        after_election mid gains = run_gains mid gains mid.current refl

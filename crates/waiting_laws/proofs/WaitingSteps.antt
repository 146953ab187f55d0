-- What one entry makes of a core that has no current thread, where each thread goes to the queue's end after its unit: a unit
-- runs the first that waits and brings each other one place ahead; every other entry leaves the places or brings threads ahead.
use Rattle.std.proofs.Common.{◌≡◌, ◌≢◌, ℕ, ℤ, zero, suc, ◌+◌, Bool, true, false, cond, List, [], ◌∷◌, fold, map, filter, All, Option, Some, None, Contains, refl, sym, ap, ◌∙◌, subst, arith}
use Rattle.sched_base.specs.declared.task.Task.{Task}
use Rattle.policy_tree.specs.declared.typed.Event.{Event}
use Rattle.policy_tree.specs.declared.typed.Event.TheVariants as event
use Rattle.policy_tree.specs.declared.typed.Put.{Put}
use Rattle.policy_tree.specs.declared.typed.Put.TheVariants as put
use Rattle.policy_tree.specs.Meaning.{CaseTree, KeyTree, Meaning, cases_on}
use Rattle.policy_eval.specs.Events.{holding_cases, outcome_of_case, outcomes_of, seen_by_handler, task_after_case}
use Rattle.policy_eval.specs.Orders.{best_and_rest, better_and_rest}
use Rattle.policy_eval.specs.Resolved.{IsResolved}
use Rattle.policy_eval.specs.Sites.{AllowsPut}
use Rattle.policy_eval.specs.Values.{holds}
use Rattle.round_model.specs.declared.entry.Did.{Did}
use Rattle.round_model.specs.declared.plan.Burst.{Burst}
use Rattle.round_model.specs.declared.plan.Plan.{Plan}
use Rattle.round_model.specs.declared.state.ModelCore.{ModelCore}
use Rattle.round_model.specs.Moves.{core_after_event, with_outcome, with_task}
use Rattle.round_model.specs.Programs.{Meeting, blocking, burst_of, ending_now, meeting_of, place_after, tick, yielding}
use Rattle.round_model.specs.Work.{IsOutcomeOfWork, after_meeting, after_unit, before, core_after_work, did_of, elected, elected_over, run_over, with_current, worked}
use Rattle.waiting_laws.specs.Waiting.{IsInPlace, QueuesAlways, thread_of}
use Rattle.waiting_laws.proofs.WaitingPlaces.{HasNumber, place-append}

-- nobody becomes current, and each thread that waits keeps its place
pub record KeepsPlaces (old new : ModelCore) : Type 0 where
  pub current : new.current ≡ old.current
  pub places : (x place : ℕ) → IsInPlace x old.queue place → IsInPlace x new.queue place

pub same_places : (core : ModelCore) → KeepsPlaces core core
same_places core = record { current = refl; places = λ x place is. is }

pub places_then : (old mid new : ModelCore) → KeepsPlaces old mid → KeepsPlaces mid new → KeepsPlaces old new
places_then old mid new first second = record { current = second.current ∙ first.current; places = λ x place is. second.places x place (first.places x place is) }

put_keeps : (place : Put) → place ≢ put.Keep → (wake : ℕ) (t : Task) (core : ModelCore) → KeepsPlaces core (with_task place wake t core)
put_keeps put.Queue apart wake t core = record { current = refl; places = λ x place is. place-append (HasNumber x) core.queue (t ∷ []) place is }
put_keeps put.Keep apart wake t core = absurd (apart refl)
put_keeps put.Block apart wake t core = record { current = refl; places = λ x place is. is }

-- the case keeps its thread current
abbrev pub IsKeeping : CaseTree → Type 0
IsKeeping c = c.put ≡ put.Keep

pub cases_keep : (p : Meaning) (fresh : Bool) (consts : List ℤ) (t : Task) (wake : ℕ) (test : CaseTree → Bool) (cases : List CaseTree) → All (λ (c : CaseTree). ¬ IsKeeping c) cases → (core : ModelCore)
    → KeepsPlaces core (fold (with_outcome wake) core (map (outcome_of_case p fresh consts t) (filter test cases)))
cases_keep p fresh consts t wake test [] each core = same_places core
cases_keep p fresh consts t wake test (c ∷ cases) each core =
    let rest = cases_keep p fresh consts t wake test cases (λ k d inside. each (suc k) d (omega arith)) in
    let next : ModelCore = with_task c.put wake (task_after_case p fresh consts t c) core in
    elim (test c) as (λ b. KeepsPlaces core (fold (with_outcome wake) core (map (outcome_of_case p fresh consts t) (cond b (c ∷ filter test cases) (filter test cases))))) [
      | true ↦ places_then core next (fold (with_outcome wake) next (map (outcome_of_case p fresh consts t) (filter test cases)))
          (put_keeps c.put (each 0 c (omega arith)) wake (task_after_case p fresh consts t c) core) (rest next)
      | false ↦ rest core
    ]

-- a thread that comes to a core goes to the queue
pub enqueue_keeps : (p : Meaning) → IsResolved p → (fresh : Bool) (t : Task) (core : ModelCore) → KeepsPlaces core (core_after_event p event.Enqueue fresh 0 t core)
unfolding core_after_event outcomes_of holding_cases
enqueue_keeps p resolved fresh t core =
    cases_keep p fresh core.consts t 0 (λ (c : CaseTree). holds (seen_by_handler fresh core.consts t) c.guard) p.handlers.on_enqueue
    (λ k d inside is. subst (AllowsPut event.Enqueue) is ((resolved.handlers event.Enqueue).cases k d inside).put) core

-- the word for a unit names its thread
word_names : (id : ℕ) (t : Task) (place : Put) → thread_of (did_of id (t, place)) ≡ Some id
word_names id t put.Queue = refl
word_names id t put.Keep = refl
word_names id t put.Block = refl

pub words_name : (id : ℕ) (outcomes : List (Task × Put)) (what : Did) → Contains (map (did_of id) outcomes) what → thread_of what ≡ Some id
words_name id [] what (k, inside, is) = absurd (omega arith)
words_name id (o ∷ outcomes) what (zero, inside, is) = ap thread_of (sym is) ∙ word_names id o.0 o.1
words_name id (o ∷ outcomes) what (suc k, inside, is) = words_name id outcomes what (k, omega arith, is)

-- without keys the first is the best
pub first_best : (t : Task) (ts : List Task) → best_and_rest (before []) (t ∷ ts) ≡ Some (t, ts)
first_best t ts = by_later (best_and_rest (before []) ts)
  where
    by_later : (later : Option (Task × List Task)) → Some (better_and_rest (before []) t ts later) ≡ Some (t, ts)
    by_later None = refl
    by_later (Some later) = refl

-- a unit ran the first of this queue, and each other has come one place ahead
pub record Advances (queue : List Task) (new : ModelCore) (what : Did) : Type 0 where
  pub current : new.current ≡ None
  pub first : (x : ℕ) → IsInPlace x queue 0 → thread_of what ≡ Some x
  pub later : (x place : ℕ) → IsInPlace x queue (suc place) → IsInPlace x new.queue place

module _ (p : Meaning) (resolved : IsResolved p) (queues : QueuesAlways p) where
  never_keeps : (e : Event) → All (λ (c : CaseTree). ¬ IsKeeping c) (cases_on p.handlers e)
  never_keeps event.Enqueue k d inside is = subst (AllowsPut event.Enqueue) is ((resolved.handlers event.Enqueue).cases k d inside).put
  never_keeps event.Tick k d inside is = let queued = queues.after_tick k d inside in absurd (cc)
  never_keeps event.Yield k d inside is = let queued = queues.after_yield k d inside in absurd (cc)
  never_keeps event.Block k d inside is = subst (AllowsPut event.Block) is ((resolved.handlers event.Block).cases k d inside).put

  event_keeps : (e : Event) (fresh : Bool) (wake : ℕ) (t : Task) (core : ModelCore) → KeepsPlaces core (core_after_event p e fresh wake t core)
  unfolding core_after_event outcomes_of holding_cases
  event_keeps e fresh wake t core =
      cases_keep p fresh core.consts t wake (λ (c : CaseTree). holds (seen_by_handler fresh core.consts t) c.guard) (cases_on p.handlers e) (never_keeps e) core

  meeting_keeps : (round : ℕ) (m : Meeting) (t : Task) (core : ModelCore) → KeepsPlaces core (after_meeting p round m t core).core
  meeting_keeps round tick t core = event_keeps event.Tick false 0 t core
  meeting_keeps round yielding t core = event_keeps event.Yield false 0 t core
  meeting_keeps round (blocking rounds) t core = event_keeps event.Block false (round + rounds) t core
  meeting_keeps round ending_now t core = same_places core

  meeting_names : (round : ℕ) (m : Meeting) (t : Task) (core : ModelCore) (what : Did) → Contains (after_meeting p round m t core).dids what → thread_of what ≡ Some t.id
  meeting_names round tick t core what said = words_name t.id (outcomes_of p event.Tick false core.consts t) what said
  meeting_names round yielding t core what said = words_name t.id (outcomes_of p event.Yield false core.consts t) what said
  meeting_names round (blocking rounds) t core what said = words_name t.id (outcomes_of p event.Block false core.consts t) what said
  meeting_names round ending_now t core what (zero, inside, is) = ap thread_of (sym is)
  meeting_names round ending_now t core what (suc k, inside, is) = absurd (omega arith)

  unit_advances : (round : ℕ) (core : ModelCore) (t : Task) (found : Option Burst) (what : Did) → Contains (after_unit p round core t found).dids what → core.current ≡ Some t
      → Advances (t ∷ core.queue) (after_unit p round core t found).core what
  unit_advances round core t None what (k, inside, is) running = absurd (omega arith)
  unit_advances round core t (Some b) what said running =
      let left : ModelCore = record core { current = None } in
      let ran : Task = record t { place = place_after b t.place } in
      let keeps = meeting_keeps round (meeting_of b t.place) ran left in
      let names = meeting_names round (meeting_of b t.place) ran left what said in
      record { current = keeps.current; first = λ x is. names ∙ ap Some is; later = λ x place is. keeps.places x place is }

  elected_over_none : (core : ModelCore) → core.current ≡ None → (queue : List Task) → core.queue ≡ queue → elected p core ≡ with_current core (best_and_rest (before []) queue)
  elected_over_none core none queue is =
      ap (elected_over p core) none
      ∙ (ap (λ (keys : List KeyTree). with_current core (best_and_rest (before keys) core.queue)) queues.first
      ∙ ap (λ (q : List Task). with_current core (best_and_rest (before []) q)) is)

  -- a unit of a core with no current thread
  pub work_advances : (plan : Plan) (round : ℕ) (core : ModelCore) (what : Did) → core.current ≡ None → IsOutcomeOfWork p plan round core what
      → Advances core.queue (core_after_work p plan round core) what
  unfolding worked
  work_advances plan round core what none said = by_queue core.queue refl
    where
      by_queue : (queue : List Task) → core.queue ≡ queue → Advances queue (run_over p plan round (elected p core) (elected p core).current).core what
      by_queue [] is = record {
        current =
            ap (λ (mid : ModelCore). (run_over p plan round mid mid.current).core.current) (elected_over_none core none [] is)
            ∙ (ap (λ (o : Option Task). (run_over p plan round core o).core.current) none ∙ none);
        first = λ x none_there. absurd none_there;
        later = λ x place none_there. absurd none_there;
      }
      by_queue (t ∷ ts) is =
          let runs = elected_over_none core none (t ∷ ts) is ∙ ap (with_current core) (first_best t ts) in
          subst (λ (mid : ModelCore). Contains (run_over p plan round mid mid.current).dids what → Advances (t ∷ ts) (run_over p plan round mid mid.current).core what) (sym runs)
          (λ words. unit_advances round (with_current core (Some (t, ts))) t (burst_of plan t) what words refl) said

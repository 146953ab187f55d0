-- What an entry makes of a core without a current thread, where the thread with the least value is elected and raised: a unit takes
-- out the best and puts it behind all others, if it puts it to the queue; an entry with which no thread comes only takes some out.
use Rattle.std.proofs.Common.{◌≡◌, ℕ, ℤ, zero, suc, ◌+◌, ◌==◌, ◌||◌, eqb, ◌⊎◌, inl, inr, Bool, true, false, cond, List, [], ◌∷◌, ◌++◌, fold, map, filter, All, Option, Some, None, Contains, IsTrue, get_or, refl, sym, ap, ◌∙◌, subst, arith}
use Rattle.std.proofs.lemmas.Bool.Decides.{nat_tests}
use Rattle.sched_base.specs.declared.task.Task.{Task}
use Rattle.policy_tree.specs.declared.typed.Event.{Event}
use Rattle.policy_tree.specs.declared.typed.Event.TheVariants as event
use Rattle.policy_tree.specs.declared.typed.Put.{Put}
use Rattle.policy_tree.specs.declared.typed.Put.TheVariants as put
use Rattle.policy_tree.specs.Meaning.{CaseTree, KeyTree, Meaning, cases_on}
use Rattle.policy_eval.specs.Events.{holding_cases, outcome_of_case, outcomes_of, seen_by_handler}
use Rattle.policy_eval.specs.Fitting.{IsTask}
use Rattle.policy_eval.specs.Obligations.{MeetsHandlerObligations}
use Rattle.policy_eval.specs.Orders.{best_and_rest}
use Rattle.policy_eval.specs.Ranges.{AreIn, attribute_ranges}
use Rattle.policy_eval.specs.Resolved.{IsResolved}
use Rattle.policy_eval.specs.Sites.{AllowsPut}
use Rattle.policy_eval.specs.Values.{holds}
use Rattle.round_model.specs.declared.entry.Did.{Did}
use Rattle.round_model.specs.declared.entry.Entry.{Entry}
use Rattle.round_model.specs.declared.entry.Entry.TheVariants as entry
use Rattle.round_model.specs.declared.plan.Burst.{Burst}
use Rattle.round_model.specs.declared.plan.Plan.{Plan}
use Rattle.round_model.specs.declared.state.Blocked.{Blocked}
use Rattle.round_model.specs.declared.state.ModelCore.{ModelCore}
use Rattle.round_model.specs.After.{effect, moved, woken}
use Rattle.round_model.specs.Kept.{Holds}
use Rattle.round_model.specs.Cores.{Cores}
use Rattle.round_model.specs.Entries.{touches}
use Rattle.round_model.specs.Moves.{admitted, blocked_of, core_after_event, handed_all, received_all, released, taken_from, with_outcome, with_task}
use Rattle.round_model.specs.Programs.{Meeting, blocking, burst_of, ending_now, meeting_of, place_after, tick, yielding}
use Rattle.round_model.specs.Work.{IsOutcomeOfWork, after_meeting, after_unit, before, core_after_work, did_of, elected, elected_over, run_over, with_current, worked}
use Rattle.round_model.proofs.Standing.{elected_gains, one_outcome}
use Rattle.waiting_laws.specs.Least.{BringsTo, ElectsLeast, IsRaised, Raises}
use Rattle.waiting_laws.specs.Slices.{value_in}
use Rattle.waiting_laws.specs.Waiting.{PutsToQueue, is_unit_of, thread_of}
use Rattle.waiting_laws.proofs.LeastQueues.{key}
use Rattle.waiting_laws.proofs.WaitingEntries.{Spares}
use Rattle.waiting_laws.proofs.WaitingSteps.{words_name}

-- what is true of what each case comes to is true of each outcome
module _ (p : Meaning) (consts : List ℤ) (t : Task) (test : CaseTree → Bool) (Is : Task × Put → Type 0) where
  outcomes_are : (cases : List CaseTree) → All (λ (c : CaseTree). IsTrue (test c) → Is (outcome_of_case p false consts t c)) cases
      → (o : Task × Put) → Contains (map (outcome_of_case p false consts t) (filter test cases)) o → Is o
  outcomes_are [] each o = λ found. let inside = found.1 in absurd (omega arith)
  outcomes_are (c ∷ cases) each o =
      let rest = outcomes_are cases (λ k d inside. each (suc k) d (omega arith)) o in
      elim (test c) as (λ b. test c ≡ b → Contains (map (outcome_of_case p false consts t) (cond b (c ∷ filter test cases) (filter test cases))) o → Is o) [
        | true ↦ λ holding. by_place (each 0 c (omega arith) holding) rest
        | false ↦ λ not. rest
      ] refl
    where
      by_place : Is (outcome_of_case p false consts t c) → (Contains (map (outcome_of_case p false consts t) (filter test cases)) o → Is o)
          → Contains (outcome_of_case p false consts t c ∷ map (outcome_of_case p false consts t) (filter test cases)) o → Is o
      by_place here rest (zero, inside, is) = subst Is is here
      by_place here rest (suc k, inside, is) = rest (k, omega arith, is)

-- the best has run and is gone from the core, or it stands behind the others with a greater value or the greatest
pub data Back (a : ℕ) (high : ℤ) (t : Task) (rest queue : List Task) : Type 0 where
  gone : queue ≡ rest → Back a high t rest queue
  set_back : (u : Task) → queue ≡ rest ++ u ∷ [] → IsRaised high (value_in a t) (value_in a u) → Back a high t rest queue

pub record Ran (a : ℕ) (high : ℤ) (t : Task) (rest : List Task) (new : ModelCore) (what : Did) : Type 0 where
  pub names : thread_of what ≡ Some t.id
  pub current : new.current ≡ None
  pub back : Back a high t rest new.queue

-- what a unit makes of its core
pub data LeastStep (p : Meaning) (a : ℕ) (high : ℤ) (old new : ModelCore) (what : Did) : Type 0 where
  runs : (t : Task) (rest : List Task) → IsTask p t → best_and_rest (before (key a ∷ [])) old.queue ≡ Some (t, rest) → Ran a high t rest new what → LeastStep p a high old new what
  rests : best_and_rest (before (key a ∷ [])) old.queue ≡ None → new.current ≡ None → LeastStep p a high old new what

module _ (p : Meaning) (resolved : IsResolved p) (handlers : MeetsHandlerObligations p) (a : ℕ) (low high : ℤ) (least : ElectsLeast p a low high) where
  -- an outcome that raises the thread and puts it to the queue
  abbrev GoesBack : Task → Task × Put → Type 0
  GoesBack t o = (o.1 ≡ put.Queue) × IsRaised high (value_in a t) (value_in a o.0)

  -- an outcome by which the thread is neither kept nor queued
  abbrev Leaves : Task × Put → Type 0
  Leaves o = o.1 ≡ put.Block

  put_back : (t : Task) (wake : ℕ) (core : ModelCore) (u : Task) (place : Put) → core.current ≡ None → GoesBack t (u, place) ⊎ Leaves (u, place)
      → ((with_task place wake u core).current ≡ None) × Back a high t core.queue (with_task place wake u core).queue
  put_back t wake core u put.Queue none (inl (is, raised)) = (none, set_back u refl raised)
  put_back t wake core u put.Queue none (inr is) = absurd (cc)
  put_back t wake core u put.Keep none (inl (is, raised)) = absurd (cc)
  put_back t wake core u put.Keep none (inr is) = absurd (cc)
  put_back t wake core u put.Block none is = (none, gone refl)

  event_ran : (e : Event) (wake : ℕ) (t : Task) (core : ModelCore) → Holds p core → IsTask p t → core.current ≡ None
      → ((o : Task × Put) → Contains (outcomes_of p e false core.consts t) o → GoesBack t o ⊎ Leaves o) → (what : Did) → Contains (map (did_of t.id) (outcomes_of p e false core.consts t)) what
      → Ran a high t core.queue (core_after_event p e false wake t core) what
  unfolding core_after_event
  event_ran e wake t core in_range task none each what said =
      let everybody : ℕ → Bool = λ id. true in
      let one = one_outcome p everybody resolved handlers e false t core in_range task in
      let o = one.0 in
      let here : Contains (outcomes_of p e false core.consts t) o = subst (λ (os : List (Task × Put)). Contains os o) (sym one.1) (0, omega arith, refl) in
      let left = put_back t wake core o.0 o.1 none (each o here) in
      let comes : with_task o.1 wake o.0 core ≡ fold (with_outcome wake) core (outcomes_of p e false core.consts t) = sym (ap (fold (with_outcome wake) core) one.1) in
      record {
        names = words_name t.id (outcomes_of p e false core.consts t) what said;
        current = subst (λ (new : ModelCore). new.current ≡ None) comes left.0;
        back = subst (λ (new : ModelCore). Back a high t core.queue new.queue) comes left.1;
      }

  goes_back : (e : Event) → All PutsToQueue (cases_on p.handlers e) → All (Raises p a high) (cases_on p.handlers e) → (t : Task) (consts : List ℤ) → AreIn (attribute_ranges p.core_attrs) consts → IsTask p t
      → (o : Task × Put) → Contains (outcomes_of p e false consts t) o → GoesBack t o ⊎ Leaves o
  unfolding outcomes_of holding_cases
  goes_back e queues raises t consts in_range task =
      outcomes_are p consts t (λ (c : CaseTree). holds (seen_by_handler false consts t) c.guard) (λ (o : Task × Put). GoesBack t o ⊎ Leaves o) (cases_on p.handlers e)
      (λ k d inside holding. inl (queues k d inside, raises k d inside consts t in_range task holding))

  leaves : (t : Task) (consts : List ℤ) (o : Task × Put) → Contains (outcomes_of p event.Block false consts t) o → GoesBack t o ⊎ Leaves o
  unfolding outcomes_of holding_cases
  leaves t consts =
      outcomes_are p consts t (λ (c : CaseTree). holds (seen_by_handler false consts t) c.guard) (λ (o : Task × Put). GoesBack t o ⊎ Leaves o) (cases_on p.handlers event.Block)
      (λ k d inside holding. inr (blocks (get_or (cases_on p.handlers event.Block) k d).put ((resolved.handlers event.Block).cases k d inside).put))
    where
      blocks : (place : Put) → AllowsPut event.Block place → place ≡ put.Block
      blocks put.Queue allowed = absurd allowed
      blocks put.Keep allowed = absurd allowed
      blocks put.Block allowed = refl

  meeting_ran : (round : ℕ) (m : Meeting) (t : Task) (core : ModelCore) → Holds p core → IsTask p t → core.current ≡ None → (what : Did) → Contains (after_meeting p round m t core).dids what
      → Ran a high t core.queue (after_meeting p round m t core).core what
  meeting_ran round tick t core in_range task none what said = event_ran event.Tick 0 t core in_range task none (goes_back event.Tick least.tick_queues least.tick_raises t core.consts in_range.consts task) what said
  meeting_ran round yielding t core in_range task none what said = event_ran event.Yield 0 t core in_range task none (goes_back event.Yield least.yield_queues least.yield_raises t core.consts in_range.consts task) what said
  meeting_ran round (blocking rounds) t core in_range task none what said = event_ran event.Block (round + rounds) t core in_range task none (leaves t core.consts) what said
  meeting_ran round ending_now t core in_range task none what (zero, inside, is) = record { names = ap thread_of (sym is); current = none; back = gone refl }
  meeting_ran round ending_now t core in_range task none what (suc k, inside, is) = absurd (omega arith)

  unit_ran : (round : ℕ) (core : ModelCore) (t : Task) (found : Option Burst) → Holds p core → IsTask p t → (what : Did) → Contains (after_unit p round core t found).dids what
      → Ran a high t core.queue (after_unit p round core t found).core what
  unit_ran round core t None in_range task what (k, inside, is) = absurd (omega arith)
  unit_ran round core t (Some b) in_range task what said =
      let left : ModelCore = record core { current = None } in
      let ran : Task = record t { place = place_after b t.place } in
      let step = meeting_ran round (meeting_of b t.place) ran left (record { current = tt; queue = in_range.queue; blocked = in_range.blocked; consts = in_range.consts })
      (record { weight = task.weight; attrs = task.attrs }) refl what said in
      record { names = step.names; current = step.current; back = same_back step.back }
    where
      same_back : {queue : List Task} → Back a high (record t { place = place_after b t.place }) core.queue queue → Back a high t core.queue queue
      same_back (gone is) = gone is
      same_back (set_back u is raised) = set_back u is raised

  -- a unit of a core without a current thread, whose numbers lie in their ranges
  pub work_least : (plan : Plan) (round : ℕ) (core : ModelCore) (what : Did) → Holds p core → core.current ≡ None → IsOutcomeOfWork p plan round core what
      → LeastStep p a high core (core_after_work p plan round core) what
  unfolding worked
  work_least plan round core what in_range none said = by_best (best_and_rest (before (key a ∷ [])) core.queue) refl
    where
      elects : elected p core ≡ with_current core (best_and_rest (before (key a ∷ [])) core.queue)
      elects = ap (elected_over p core) none ∙ ap (λ (keys : List KeyTree). with_current core (best_and_rest (before keys) core.queue)) least.least

      fits : Holds p (elected p core)
      fits = let everybody : ℕ → Bool = λ id. true in (elected_gains p everybody resolved handlers core in_range).holds

      left : ModelCore → ModelCore
      left mid = (run_over p plan round mid mid.current).core

      by_best : (found : Option (Task × List Task)) → best_and_rest (before (key a ∷ [])) core.queue ≡ found → LeastStep p a high core (left (elected p core)) what
      by_best None is =
          let stays : elected p core ≡ core = elects ∙ ap (with_current core) is in
          rests is (ap (λ (mid : ModelCore). (left mid).current) stays ∙ (ap (λ (o : Option Task). (run_over p plan round core o).core.current) none ∙ none))
      by_best (Some (t, rest)) is =
          let runs_it : elected p core ≡ with_current core (Some (t, rest)) = elects ∙ ap (with_current core) is in
          let mid_fits = subst (Holds p) runs_it fits in
          runs t rest mid_fits.current is
          (subst (λ (mid : ModelCore). Contains (run_over p plan round mid mid.current).dids what → Ran a high t rest (left mid) what) (sym runs_it)
          (unit_ran round (with_current core (Some (t, rest))) t (burst_of plan t) mid_fits mid_fits.current what) said)

-- some threads are taken out of the queue, and none that is spared
pub data TakesOut (c : ℕ) (e : Entry) (old new : List Task) : Type 0 where
  takes_out : (threads : List ℕ) → new ≡ (taken_from threads old).left → ((x : ℕ) → Spares x c e → ¬ Contains threads x) → TakesOut c e old new

same_queue : (c : ℕ) (e : Entry) (old new : List Task) → new ≡ old → TakesOut c e old new
same_queue c e old new same = takes_out [] same (λ x spares found. absurd (let inside = found.1 in omega arith))

module _ (p : Meaning) (plan : Plan) (round : ℕ) (m : Cores) (c : ℕ) where
  woken_queue : (by at : ℕ) (found : Option Blocked) → eqb at c ≡ false → (core : ModelCore) → (woken p by at c found core).queue ≡ core.queue
  unfolding released
  woken_queue by at None apart core = refl
  woken_queue by at (Some b) apart core =
      ap (λ (there : Bool). let left : ModelCore = cond (eqb by c) (released b.task.id core) core in (cond there (admitted p false b.task left) left).queue) apart ∙ by_core (eqb by c)
    where
      by_core : (here : Bool) → (cond here (released b.task.id core) core).queue ≡ core.queue
      by_core true = refl
      by_core false = refl

  either_queue : (b : Bool) (new old : ModelCore) → new.queue ≡ old.queue → (cond b new old).queue ≡ old.queue
  either_queue true new old same = same
  either_queue false new old same = refl

  pub quiet_queue : (e : Entry) → is_unit_of c e ≡ false → ¬ BringsTo c e → TakesOut c e (m c).queue (moved p plan round e m c).queue
  unfolding touches effect handed_all
  quiet_queue (entry.Round number) no_unit quiet = same_queue c (entry.Round number) (m c).queue (moved p plan round (entry.Round number) m c).queue (either_queue (touches c (entry.Round number)) (m c) (m c) refl)
  quiet_queue (entry.Enter thread by at reads) no_unit quiet =
      let apart : eqb at c ≡ false = grind (arith, nat_tests) in
      same_queue c (entry.Enter thread by at reads) (m c).queue (moved p plan round (entry.Enter thread by at reads) m c).queue
      (ap (λ b. (cond b (effect p plan round (entry.Enter thread by at reads) m c) (m c)).queue) apart)
  quiet_queue (entry.Wake thread by at reads) no_unit quiet =
      let apart : eqb at c ≡ false = grind (arith, nat_tests) in
      same_queue c (entry.Wake thread by at reads) (m c).queue (moved p plan round (entry.Wake thread by at reads) m c).queue
      (either_queue ((by == c) || (at == c)) (woken p by at c (blocked_of thread (m by)) (m c)) (m c) (woken_queue by at (blocked_of thread (m by)) apart (m c)))
  quiet_queue (entry.Work by what) no_unit quiet =
      same_queue c (entry.Work by what) (m c).queue (moved p plan round (entry.Work by what) m c).queue (ap (λ b. (cond b (core_after_work p plan round (m c)) (m c)).queue) no_unit)
  quiet_queue (entry.Steal by from threads reads) no_unit quiet =
      let apart : eqb by c ≡ false = grind (arith, nat_tests) in
      let found = (taken_from threads (m from).queue).found in
      subst (λ b. TakesOut c (entry.Steal by from threads reads) (m c).queue
      (let left : ModelCore = cond (eqb from c) (handed_all threads (m c)) (m c) in cond (b || eqb from c) (cond b (received_all found left) left) (m c)).queue) (sym apart)
      (elim (eqb from c) as (λ b. eqb from c ≡ b → TakesOut c (entry.Steal by from threads reads) (m c).queue
      (let left : ModelCore = cond b (handed_all threads (m c)) (m c) in cond b left (m c)).queue) [
        | true ↦ λ is. let there : from ≡ c = grind (arith, nat_tests) in
            takes_out threads refl (λ x spares. spares by threads reads (ap (λ (k : ℕ). entry.Steal by k threads reads) there))
        | false ↦ λ is. same_queue c (entry.Steal by from threads reads) (m c).queue (m c).queue refl
      ] refl)
  quiet_queue (entry.Fail by from reads) no_unit quiet = same_queue c (entry.Fail by from reads) (m c).queue (moved p plan round (entry.Fail by from reads) m c).queue (either_queue (touches c (entry.Fail by from reads)) (m c) (m c) refl)
  quiet_queue (entry.Pass by reads) no_unit quiet = same_queue c (entry.Pass by reads) (m c).queue (moved p plan round (entry.Pass by reads) m c).queue (either_queue (touches c (entry.Pass by reads)) (m c) (m c) refl)

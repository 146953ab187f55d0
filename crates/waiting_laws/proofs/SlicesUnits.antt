-- What a unit makes of its core, where a case that keeps its thread lowers an attribute: the thread that is current, or else the
-- first that waits, has run; it is gone from the core or its value is less; and the others keep their order.
use Rattle.std.proofs.Common.{◌≡◌, ℕ, ℤ, zero, suc, ◌+◌, Bool, true, false, cond, List, [], ◌∷◌, fold, map, filter, All, Option, Some, None, Contains, IfSome, IsTrue, refl, sym, ap, ◌∙◌, subst, arith, ◌<ℤ◌}
use Rattle.sched_base.specs.declared.task.Task.{Task}
use Rattle.policy_tree.specs.declared.typed.Event.{Event}
use Rattle.policy_tree.specs.declared.typed.Event.TheVariants as event
use Rattle.policy_tree.specs.declared.typed.Put.{Put}
use Rattle.policy_tree.specs.declared.typed.Put.TheVariants as put
use Rattle.policy_tree.specs.Meaning.{CaseTree, KeyTree, Meaning, cases_on}
use Rattle.policy_eval.specs.Events.{holding_cases, outcome_of_case, outcomes_of, seen_by_handler, task_after_case}
use Rattle.policy_eval.specs.Fitting.{IsTask}
use Rattle.policy_eval.specs.Orders.{best_and_rest}
use Rattle.policy_eval.specs.Ranges.{AreIn, attribute_ranges}
use Rattle.policy_eval.specs.Resolved.{IsResolved}
use Rattle.policy_eval.specs.Sites.{AllowsPut}
use Rattle.policy_eval.specs.Values.{holds}
use Rattle.round_model.specs.declared.entry.Did.{Did}
use Rattle.round_model.specs.declared.plan.Burst.{Burst}
use Rattle.round_model.specs.declared.plan.Plan.{Plan}
use Rattle.round_model.specs.declared.state.ModelCore.{ModelCore}
use Rattle.round_model.specs.Kept.{Holds}
use Rattle.round_model.specs.Moves.{core_after_event, with_outcome, with_task}
use Rattle.round_model.specs.Programs.{Meeting, blocking, burst_of, ending_now, meeting_of, place_after, tick, yielding}
use Rattle.round_model.specs.Work.{IsOutcomeOfWork, after_meeting, after_unit, before, core_after_work, did_of, elected, elected_over, run_over, with_current, worked}
use Rattle.waiting_laws.specs.Slices.{KeepsInSlices, LowersIfKeeping, value_in}
use Rattle.waiting_laws.specs.Waiting.{IsInPlace, thread_of}
use Rattle.waiting_laws.proofs.WaitingPlaces.{HasNumber, place-append}
use Rattle.waiting_laws.proofs.WaitingSteps.{IsKeeping, first_best, words_name}

-- who becomes current passes a test, and each thread that waits keeps its place
record Leads (Passes : Option Task → Type 0) (old new : ModelCore) : Type 0 where
  pub current : Passes old.current → Passes new.current
  pub places : (x place : ℕ) → IsInPlace x old.queue place → IsInPlace x new.queue place

put_leads : (Passes : Option Task → Type 0) (place : Put) (wake : ℕ) (t : Task) (core : ModelCore) → (place ≡ put.Keep → Passes (Some t)) → Leads Passes core (with_task place wake t core)
put_leads Passes put.Queue wake t core passes = record { current = λ is. is; places = λ x place is. place-append (HasNumber x) core.queue (t ∷ []) place is }
put_leads Passes put.Keep wake t core passes = record { current = λ is. passes refl; places = λ x place is. is }
put_leads Passes put.Block wake t core passes = record { current = λ is. is; places = λ x place is. is }

module _ (p : Meaning) (consts : List ℤ) (t : Task) (wake : ℕ) (Passes : Option Task → Type 0) (test : CaseTree → Bool) where
  -- a case that keeps the thread, if it holds, makes one that passes current
  abbrev PassesIfKept : CaseTree → Type 0
  PassesIfKept c = IsKeeping c → IsTrue (test c) → Passes (Some (task_after_case p false consts t c))

  cases_lead : (cases : List CaseTree) → All PassesIfKept cases → (core : ModelCore)
      → Leads Passes core (fold (with_outcome wake) core (map (outcome_of_case p false consts t) (filter test cases)))
  cases_lead [] each core = record { current = λ is. is; places = λ x place is. is }
  cases_lead (c ∷ cases) each core =
      let rest = cases_lead cases (λ k d inside. each (suc k) d (omega arith)) in
      let next : ModelCore = with_task c.put wake (task_after_case p false consts t c) core in
      elim (test c) as (λ b. test c ≡ b → Leads Passes core (fold (with_outcome wake) core (map (outcome_of_case p false consts t) (cond b (c ∷ filter test cases) (filter test cases))))) [
        | true ↦ λ is.
            let here = put_leads Passes c.put wake (task_after_case p false consts t c) core (λ keeps. each 0 c (omega arith) keeps is) in
            let later = rest next in
            record { current = λ old. later.current (here.current old); places = λ x place old. later.places x place (here.places x place old) }
        | false ↦ λ is. rest core
      ] refl

-- the thread has run, is gone from the core or has a lower value, and the others of this queue keep their order
pub record Runs (a : ℕ) (t : Task) (queue : List Task) (new : ModelCore) (what : Did) : Type 0 where
  pub names : thread_of what ≡ Some t.id
  pub current : IfSome new.current (λ (u : Task). value_in a u <ℤ value_in a t)
  pub places : (x place : ℕ) → IsInPlace x queue place → IsInPlace x new.queue place

-- what a unit makes of its core, where the thread that runs has its numbers in their ranges
pub data UnitStep (p : Meaning) (a : ℕ) (old new : ModelCore) (what : Did) : Type 0 where
  goes_on : (t : Task) → IsTask p t → old.current ≡ Some t → Runs a t old.queue new what → UnitStep p a old new what
  begins : (t : Task) (ts : List Task) → IsTask p t → old.current ≡ None → old.queue ≡ t ∷ ts → Runs a t ts new what → UnitStep p a old new what
  rests : old.queue ≡ [] → new.current ≡ None → UnitStep p a old new what

module _ (p : Meaning) (resolved : IsResolved p) (a : ℕ) (low : ℤ) (keeps : ℕ) (slices : KeepsInSlices p a low keeps) where
  -- lower than the thread's value, if it is current
  abbrev IsLower : Task → Option Task → Type 0
  IsLower t o = IfSome o (λ (u : Task). value_in a u <ℤ value_in a t)

  event_leads : (e : Event) → All (LowersIfKeeping p a) (cases_on p.handlers e) → (wake : ℕ) (t : Task) (core : ModelCore) → IsTask p t → AreIn (attribute_ranges p.core_attrs) core.consts
      → Leads (IsLower t) core (core_after_event p e false wake t core)
  unfolding core_after_event outcomes_of holding_cases
  event_leads e lowers wake t core task consts =
      cases_lead p core.consts t wake (IsLower t) (λ (c : CaseTree). holds (seen_by_handler false core.consts t) c.guard) (cases_on p.handlers e)
      (λ k d inside keeping holding. lowers k d inside keeping core.consts t consts task holding) core

  never_on_block : All (LowersIfKeeping p a) (cases_on p.handlers event.Block)
  never_on_block k d inside is = absurd (subst (AllowsPut event.Block) is ((resolved.handlers event.Block).cases k d inside).put)

  meeting_runs : (round : ℕ) (m : Meeting) (t : Task) (core : ModelCore) (what : Did) → core.current ≡ None → IsTask p t → AreIn (attribute_ranges p.core_attrs) core.consts
      → Contains (after_meeting p round m t core).dids what → Runs a t core.queue (after_meeting p round m t core).core what
  meeting_runs round m t core what none task consts = by_meeting m
    where
      passes : IsLower t core.current
      passes = subst (IsLower t) (sym none) tt

      runs : (e : Event) → All (LowersIfKeeping p a) (cases_on p.handlers e) → (wake : ℕ) → Contains (map (did_of t.id) (outcomes_of p e false core.consts t)) what
          → Runs a t core.queue (core_after_event p e false wake t core) what
      runs e lowers wake said =
          let leads = event_leads e lowers wake t core task consts in
          record { names = words_name t.id (outcomes_of p e false core.consts t) what said; current = leads.current passes; places = leads.places }

      by_meeting : (m : Meeting) → Contains (after_meeting p round m t core).dids what → Runs a t core.queue (after_meeting p round m t core).core what
      by_meeting tick said = runs event.Tick slices.after_tick 0 said
      by_meeting yielding said = runs event.Yield slices.after_yield 0 said
      by_meeting (blocking rounds) said = runs event.Block never_on_block (round + rounds) said
      by_meeting ending_now (zero, inside, is) = record { names = ap thread_of (sym is); current = passes; places = λ x place is. is }
      by_meeting ending_now (suc k, inside, is) = absurd (omega arith)

  unit_runs : (round : ℕ) (core : ModelCore) (t : Task) (found : Option Burst) (what : Did) → IsTask p t → AreIn (attribute_ranges p.core_attrs) core.consts
      → Contains (after_unit p round core t found).dids what → Runs a t core.queue (after_unit p round core t found).core what
  unit_runs round core t None what task consts (k, inside, is) = absurd (omega arith)
  unit_runs round core t (Some b) what task consts said =
      let ran : Task = record t { place = place_after b t.place } in
      let runs = meeting_runs round (meeting_of b t.place) ran (record core { current = None }) what refl (record { weight = task.weight; attrs = task.attrs }) consts said in
      record { names = runs.names; current = runs.current; places = runs.places }

  -- a unit of a core whose numbers lie in their ranges
  pub work_runs : (plan : Plan) (round : ℕ) (core : ModelCore) (what : Did) → Holds p core → IsOutcomeOfWork p plan round core what
      → UnitStep p a core (core_after_work p plan round core) what
  unfolding worked
  work_runs plan round core what in_range said = by_current core.current refl
    where
      left : ModelCore → ModelCore
      left mid = (run_over p plan round mid mid.current).core

      by_queue : core.current ≡ None → (queue : List Task) → core.queue ≡ queue → elected p core ≡ with_current core (best_and_rest (before []) queue)
          → UnitStep p a core (left (elected p core)) what
      by_queue none [] is elects = rests is (ap (λ (mid : ModelCore). (left mid).current) elects ∙ (ap (λ (o : Option Task). (run_over p plan round core o).core.current) none ∙ none))
      by_queue none (t ∷ ts) is elects =
          let first : All (IsTask p) (t ∷ ts) = subst (All (IsTask p)) is in_range.queue in
          let task : IsTask p t = first 0 t (omega arith) in
          let runs = elects ∙ ap (with_current core) (first_best t ts) in
          begins t ts task none is
          (subst (λ (mid : ModelCore). Contains (run_over p plan round mid mid.current).dids what → Runs a t ts (left mid) what) (sym runs)
          (unit_runs round (with_current core (Some (t, ts))) t (burst_of plan t) what task in_range.consts) said)

      by_current : (current : Option Task) → core.current ≡ current → UnitStep p a core (left (elected p core)) what
      by_current None none =
          by_queue none core.queue refl
          (ap (elected_over p core) none ∙ ap (λ (keys : List KeyTree). with_current core (best_and_rest (before keys) core.queue)) slices.first)
      by_current (Some t) is =
          let task : IsTask p t = subst (λ (o : Option Task). IfSome o (IsTask p)) is in_range.current in
          let stays : elected p core ≡ core = ap (elected_over p core) is in
          goes_on t task is
          (subst (λ (mid : ModelCore). Contains (run_over p plan round mid mid.current).dids what → Runs a t core.queue (left mid) what) (sym stays)
          (subst (λ (o : Option Task). Contains (run_over p plan round core o).dids what → Runs a t core.queue (run_over p plan round core o).core what) (sym is)
          (unit_runs round core t (burst_of plan t) what task in_range.consts)) said)

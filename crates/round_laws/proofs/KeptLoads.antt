-- Apart from steals and the entries that disturb a round, none changes a core's thread count or load: a unit of work
-- moves its thread within the core, unless the thread blocks or ends.
use Rattle.std.proofs.Common.{◌≡◌, ℕ, zero, suc, ◌+◌, ℤ, Bool, true, false, List, [], ◌∷◌, fold, map, slice_get, take, IfSome, Option, Some, None, Contains, refl, sym, ap, ◌∙◌, subst, arith}
use Rattle.sched_base.specs.declared.task.Task.{Task}
use Rattle.policy_tree.specs.declared.typed.Attr.{Attr}
use Rattle.policy_tree.specs.declared.typed.Event.{Event}
use Rattle.policy_tree.specs.declared.typed.Event.TheVariants as event
use Rattle.policy_tree.specs.declared.typed.Put.{Put}
use Rattle.policy_tree.specs.declared.typed.Put.TheVariants as put
use Rattle.policy_tree.specs.Meaning.{CaseTree, Meaning, SetTree}
use Rattle.policy_eval.specs.Events.{holding_cases, outcome_of_case, outcomes_of, seen_by_handler, task_after_set, with_attribute}
use Rattle.policy_eval.specs.Fitting.{IsTask}
use Rattle.policy_eval.specs.Obligations.{MeetsHandlerObligations}
use Rattle.policy_eval.specs.Orders.{best_and_rest}
use Rattle.policy_eval.specs.Resolved.{IsResolved}
use Rattle.policy_eval.specs.Values.{value_of}
use Rattle.round_model.specs.declared.entry.Did.{Did}
use Rattle.round_model.specs.declared.entry.Did.TheVariants as did
use Rattle.round_model.specs.declared.entry.Entry.{Entry}
use Rattle.round_model.specs.declared.entry.Entry.TheVariants as entry
use Rattle.round_model.specs.declared.plan.Burst.{Burst}
use Rattle.round_model.specs.declared.plan.Plan.{Plan}
use Rattle.round_model.specs.declared.state.ModelCore.{ModelCore}
use Rattle.round_model.specs.After.{after, moved, round_of}
use Rattle.round_model.specs.Cores.{seen_of}
use Rattle.round_model.specs.Fits.{Fits}
use Rattle.round_model.specs.Kept.{Holds}
use Rattle.round_model.specs.Kinds.{is_steal}
use Rattle.round_model.specs.Legal.{Legal, LegalNext}
use Rattle.round_model.specs.Moves.{core_after_event, with_outcome, with_task}
use Rattle.round_model.specs.Programs.{Meeting, blocking, burst_of, ending_now, meeting_of, place_after, tick, yielding}
use Rattle.round_model.specs.Rounds.{disturbs, is_leaving}
use Rattle.round_model.specs.StillRounds.{StillKeepsLoads}
use Rattle.round_model.specs.Work.{IsOutcomeOfWork, after_meeting, after_unit, before, core_after_work, did_of, elected, elected_over, met, run_over, with_current, worked}
use Rattle.round_model.proofs.Acting.{legal_said}
use Rattle.round_model.proofs.Bounded.{stays}
use Rattle.round_model.proofs.Counting.{Split, best_split}
use Rattle.round_model.proofs.Grows.{legal_prefix}
use Rattle.round_model.proofs.Keeping.{stays_after}
use Rattle.round_model.proofs.Moved.{moved_work, unmoved_fail, unmoved_pass, unmoved_round}
use Rattle.round_model.proofs.Standing.{one_outcome}
use Rattle.round_model.proofs.There.{acts_there}
use Rattle.round_laws.specs.Rest.{MeetsMoveObligations}
use Rattle.round_laws.proofs.Amounts.{amount, amount_current, amount_elected, amount_queued, amount_taken, seen_same}
use Rattle.round_laws.proofs.Positions.{seen_behind}

-- an event changes attributes of the thread that meets it, and never its weight
weight-with_attribute : (found : Option Attr) (at : ℕ) (x : ℤ) (t : Task) → (with_attribute found at x t).weight ≡ t.weight
weight-with_attribute None at x t = refl
weight-with_attribute (Some a) at x t = refl

weight-set : (p : Meaning) (fresh : Bool) (consts : List ℤ) (t : Task) (s : SetTree) → (task_after_set p fresh consts t s).weight ≡ t.weight
unfolding task_after_set
weight-set p fresh consts t s =
    weight-with_attribute (slice_get p.thread_attrs s.attr) s.attr (value_of (seen_by_handler fresh consts t) s.expr) t

weight-sets : (p : Meaning) (fresh : Bool) (consts : List ℤ) (sets : List SetTree) (t : Task) → (fold (task_after_set p fresh consts) t sets).weight ≡ t.weight
weight-sets p fresh consts [] t = refl
weight-sets p fresh consts (s ∷ sets) t = weight-sets p fresh consts sets (task_after_set p fresh consts t s) ∙ weight-set p fresh consts t s

first_weight : (p : Meaning) (fresh : Bool) (consts : List ℤ) (t : Task) (cases : List CaseTree) (outcome : Task × Put)
    → map (outcome_of_case p fresh consts t) cases ≡ outcome ∷ [] → outcome.0.weight ≡ t.weight
first_weight p fresh consts t [] outcome one = absurd (cc)
first_weight p fresh consts t (c ∷ cases) outcome one =
    let same : outcome_of_case p fresh consts t c ≡ outcome = cc in
    sym (ap (λ (o : Task × Put). o.0.weight) same) ∙ weight-sets p fresh consts c.sets t

-- the one outcome of an event has the thread's weight
pub outcome_weight : (p : Meaning) (e : Event) (fresh : Bool) (consts : List ℤ) (t : Task) (outcome : Task × Put)
    → outcomes_of p e fresh consts t ≡ outcome ∷ [] → outcome.0.weight ≡ t.weight
unfolding outcomes_of
outcome_weight p e fresh consts t outcome one = first_weight p fresh consts t (holding_cases p e fresh consts t) outcome one

only_word : (x d : Did) → Contains (x ∷ []) d → x ≡ d
only_word x d (zero, inside, is) = is
only_word x d (suc k, inside, is) = absurd (omega arith)

module _ (p : Meaning) (resolved : IsResolved p) (handlers : MeetsHandlerObligations p) (counts : ℕ → ℕ) where
  -- a thread is put back at its core, unless it blocks
  put_back : (place : Put) (wake : ℕ) (x t : Task) (core : ModelCore) (what : Did) → core.current ≡ None → x.weight ≡ t.weight → did_of t.id (x, place) ≡ what → is_leaving what ≡ false
      → amount counts (with_task place wake x core) ≡ amount counts core + counts t.weight
  put_back put.Queue wake x t core what none same said stay = amount_queued counts wake x core ∙ ap (λ w. amount counts core + counts w) same
  put_back put.Keep wake x t core what none same said stay = amount_current counts wake x core none ∙ ap (λ w. amount counts core + counts w) same
  put_back put.Block wake x t core what none same said stay = let test : true ≡ false = ap is_leaving said ∙ stay in absurd (cc)

  -- so it is with the one outcome of an event
  met_back : (e : Event) (wake : ℕ) (t : Task) (core : ModelCore) (what : Did) → Holds p core → IsTask p t → core.current ≡ None
      → Contains (met p e wake t core).dids what → is_leaving what ≡ false → amount counts (met p e wake t core).core ≡ amount counts core + counts t.weight
  unfolding core_after_event
  met_back e wake t core what holds fits none said stay =
      let one = one_outcome p (λ id. true) resolved handlers e false t core holds fits in
      let o = one.0 in
      let word = only_word (did_of t.id o) what (subst (λ (outcomes : List (Task × Put)). Contains (map (did_of t.id) outcomes) what) one.1 said) in
      ap (λ (outcomes : List (Task × Put)). amount counts (fold (with_outcome wake) core outcomes)) one.1
      ∙ put_back o.1 wake o.0 t core what none (outcome_weight p e false core.consts t o one.1) word stay

  meeting_back : (round : ℕ) (m : Meeting) (t : Task) (core : ModelCore) (what : Did) → Holds p core → IsTask p t → core.current ≡ None
      → Contains (after_meeting p round m t core).dids what → is_leaving what ≡ false → amount counts (after_meeting p round m t core).core ≡ amount counts core + counts t.weight
  meeting_back round tick t core what holds fits none said stay = met_back event.Tick 0 t core what holds fits none said stay
  meeting_back round yielding t core what holds fits none said stay = met_back event.Yield 0 t core what holds fits none said stay
  meeting_back round (blocking rounds) t core what holds fits none said stay = met_back event.Block (round + rounds) t core what holds fits none said stay
  meeting_back round ending_now t core what holds fits none said stay = let test : true ≡ false = ap is_leaving (only_word (did.Ended t.id) what said) ∙ stay in absurd (cc)

  unit_keeps : (round : ℕ) (core : ModelCore) (t : Task) (found : Option Burst) (what : Did) → Holds p core → core.current ≡ Some t
      → Contains (after_unit p round core t found).dids what → is_leaving what ≡ false → amount counts (after_unit p round core t found).core ≡ amount counts core
  unit_keeps round core t None what holds is said stay = refl
  unit_keeps round core t (Some b) what holds is said stay =
      let left : ModelCore = record core { current = None } in
      let ran : Task = record t { place = place_after b t.place } in
      let fits : IsTask p t = subst (λ (o : Option Task). IfSome o (IsTask p)) is holds.current in
      let without : Holds p left = record { current = tt; queue = holds.queue; blocked = holds.blocked; consts = holds.consts } in
      meeting_back round (meeting_of b t.place) ran left what without (record { weight = fits.weight; attrs = fits.attrs }) refl said stay
      ∙ amount_taken counts t core is

  run_keeps : (plan : Plan) (round : ℕ) (core : ModelCore) (current : Option Task) (what : Did) → Holds p core → core.current ≡ current
      → Contains (run_over p plan round core current).dids what → is_leaving what ≡ false → amount counts (run_over p plan round core current).core ≡ amount counts core
  run_keeps plan round core None what holds is said stay = refl
  run_keeps plan round core (Some t) what holds is said stay = unit_keeps round core t (burst_of plan t) what holds is said stay

  elected_holds : (core : ModelCore) → Holds p core → Holds p (elected p core)
  elected_holds core holds = by_current core.current
    where
      by_best : (best : Option (Task × List Task)) → IfSome best (Split (IsTask p) (λ t. true) core.queue) → Holds p (with_current core best)
      by_best None split = holds
      by_best (Some best) split = record { current = split.best holds.queue; queue = split.others holds.queue; blocked = holds.blocked; consts = holds.consts }

      by_current : (current : Option Task) → Holds p (elected_over p core current)
      by_current None = by_best (best_and_rest (before p.elect) core.queue) (best_split (IsTask p) (λ t. true) (before p.elect) core.queue)
      by_current (Some t) = holds

  -- a unit of work by which no thread blocks or ends keeps what the core has
  pub work_keeps : (plan : Plan) (round : ℕ) (core : ModelCore) (what : Did) → Holds p core → IsOutcomeOfWork p plan round core what → is_leaving what ≡ false
      → amount counts (core_after_work p plan round core) ≡ amount counts core
  unfolding worked
  work_keeps plan round core what holds said stay =
      run_keeps plan round (elected p core) (elected p core).current what (elected_holds core holds) refl said stay ∙ amount_elected counts p core

module _ (p : Meaning) (plan : Plan) (fits : Fits p plan) (handlers : MeetsHandlerObligations p) (h : List Entry) (so_far : Legal p plan h) where
  entry_keeps : (e : Entry) → LegalNext p plan h e → is_steal e ≡ false → disturbs e ≡ false → (c : ℕ) (counts : ℕ → ℕ)
      → amount counts (moved p plan (round_of h) e (after p plan h) c) ≡ amount counts (after p plan h c)
  entry_keeps (entry.Round number) legal other calm c counts = ap (amount counts) (sym (unmoved_round p plan (round_of h) (after p plan h) number c))
  entry_keeps (entry.Enter thread by at reads) legal other calm c counts = absurd (cc)
  entry_keeps (entry.Wake thread by at reads) legal other calm c counts = absurd (cc)
  entry_keeps (entry.Work by what) legal other calm c counts =
      let m = after p plan h in
      let e = entry.Work by what in
      let there = acts_there p plan h e by refl legal in
      let holds = (stays p plan fits handlers (λ id. true) h so_far).holds by there in
      let same = work_keeps p fits.policy handlers counts plan (round_of h) (m by) what holds (legal_said p plan h e legal) calm in
      ap (amount counts) (sym (moved_work p plan (round_of h) m by what c))
      ∙ stays_after (λ core. amount counts core ≡ amount counts (m c)) m by c (core_after_work p plan (round_of h) (m by)) refl
      (λ is. same ∙ ap (λ k. amount counts (m k)) is)
  entry_keeps (entry.Steal by from threads reads) legal other calm c counts = absurd (cc)
  entry_keeps (entry.Fail by from reads) legal other calm c counts = ap (amount counts) (sym (unmoved_fail p plan (round_of h) (after p plan h) by from reads c))
  entry_keeps (entry.Pass by reads) legal other calm c counts = ap (amount counts) (sym (unmoved_pass p plan (round_of h) (after p plan h) by reads c))

  -- an entry that is no steal and doesn't disturb keeps thread count and load of each core
  pub entry_keeps_seen : (e : Entry) → LegalNext p plan h e → is_steal e ≡ false → disturbs e ≡ false → (c : ℕ)
      → seen_of (moved p plan (round_of h) e (after p plan h) c) ≡ seen_of (after p plan h c)
  entry_keeps_seen e legal other calm c = seen_same (after p plan h c) (moved p plan (round_of h) e (after p plan h) c) (entry_keeps e legal other calm c)

-- so it is along a history
pub keeps_loads : (p : Meaning) (plan : Plan) (history : List Entry) → Fits p plan → MeetsMoveObligations p → Legal p plan history → StillKeepsLoads p plan history
keeps_loads p plan history fits obligations legal k c e is other calm there =
    seen_behind p plan history k c e is
    ∙ entry_keeps_seen p plan fits obligations.handlers (take k history) (legal_prefix p plan history k legal) e (legal k e is) other calm c

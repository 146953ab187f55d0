-- What a unit of work comes to, step by step.
use Rattle.std.proofs.Common.{◌≡◌, ℕ, suc, false, List, [], ◌∷◌, Option, Some, None, Contains, All, ◌++◌, option_to_list, fold, map, refl, sym, ap, ap₂, ◌∙◌, subst, arith}
use Rattle.sched_base.specs.declared.task.Task.{Task}
use Rattle.policy_tree.specs.declared.typed.Event.{Event}
use Rattle.policy_tree.specs.declared.typed.Put.{Put}
use Rattle.policy_tree.specs.Meaning.{Meaning}
use Rattle.policy_eval.specs.Events.{outcomes_of}
use Rattle.policy_eval.specs.Fitting.{IsTask}
use Rattle.round_model.specs.declared.entry.Did.{Did}
use Rattle.round_model.specs.declared.plan.Burst.{Burst}
use Rattle.round_model.specs.declared.plan.Plan.{Plan}
use Rattle.round_model.specs.declared.state.ModelCore.{ModelCore}
use Rattle.round_model.specs.Cores.{tasks_of}
use Rattle.round_model.specs.Moves.{core_after_event, with_outcome}
use Rattle.round_model.specs.Programs.{burst_of, ending_now, meeting_of, place_after}
use Rattle.round_model.specs.Work.{IsOutcomeOfWork, Worked, after_meeting, after_unit, core_after_work, did_of, elected, met, run_over, worked}
use Rattle.round_judge.specs.declared.unit.Unit.{Unit as WorkUnit}
use Rattle.round_judge.specs.declared.unit.Unit.TheVariants as unit
use Rattle.round_judge.specs.Code.UnitSteps.{IsMet, Runs}
use Rattle.round_judge.specs.Units.{HasTask, IsUnit, core_after_unit, dids_of_unit, left_by, without}

-- taking the task that runs out of a core leaves its constants
consts-without : (place : Option ℕ) (core : ModelCore) → (without place core).consts ≡ core.consts
consts-without None core = refl
consts-without (Some at) core = refl

-- with one outcome the thread is put once, and one word is said of it
pub met_once : (p : Meaning) (e : Event) (wake : ℕ) (t : Task) (place : Option ℕ) (core : ModelCore) (outcome : Task × Put)
    → outcomes_of p e false core.consts t ≡ outcome ∷ [] → outcome.0.id ≡ t.id
    → met p e wake t (without place core) ≡ left_by core (unit.Met place outcome.0 outcome.1 wake)
unfolding core_after_event
met_once p e wake t place core outcome one same =
    let left = without place core in
    let outcomes : outcomes_of p e false left.consts t ≡ outcome ∷ [] = ap (λ consts. outcomes_of p e false consts t) (consts-without place core) ∙ one in
    let worked : ModelCore → List Did → Worked = λ core dids. record { core = core; dids = dids } in
    ap₂ worked (ap (fold (with_outcome wake) left) outcomes)
    (ap (map (did_of t.id)) outcomes ∙ ap (λ id. did_of id outcome ∷ []) (sym same))

module _ (p : Meaning) (plan : Plan) (round : ℕ) (core : ModelCore) (place : Option ℕ) (t : Task) (runs : Runs p core place t) where
  -- the task runs a unit of the burst that it has next, if it has one
  pub worked_on : worked p plan round core ≡ after_unit p round (elected p core) t (burst_of plan t)
  unfolding worked
  worked_on = ap (run_over p plan round (elected p core)) runs.runs

  pub unit_stuck : burst_of plan t ≡ None → IsUnit p plan round core unit.Stuck
  unit_stuck none =
      record { dids = ap (λ (w : Worked). w.dids) (worked_on ∙ ap (after_unit p round (elected p core) t) none); task = t; runs = runs.runs; lacks = none }

  -- the task as the unit leaves it, before it meets anything
  abbrev pub ran : Burst → Task
  ran b = record t { place = place_after b t.place }

  pub worked_meeting : (b : Burst) → burst_of plan t ≡ Some b → worked p plan round core ≡ after_meeting p round (meeting_of b t.place) (ran b) (without place core)
  worked_meeting b is =
      worked_on ∙ (ap (after_unit p round (elected p core) t) is ∙ ap (after_meeting p round (meeting_of b t.place) (ran b)) runs.leaves)

  -- the unit of a task that meets this event
  pub unit_met : (b : Burst) (e : Event) (wake : ℕ) → worked p plan round core ≡ met p e wake (ran b) (without place core)
      → (u : WorkUnit) → IsMet p core place (ran b) e wake u → IsUnit p plan round core u
  unit_met b e wake is unit.Idle m = absurd m
  unit_met b e wake is unit.Stuck m = absurd m
  unit_met b e wake is (unit.Met at x put until) m =
      let left : worked p plan round core ≡ left_by core (unit.Met place x put until) = is ∙ m.1 in
      (left ∙ ap (λ o. left_by core (unit.Met o x put until)) (sym m.0), subst (λ o. HasTask o core) (sym m.0) runs.there, m.2)
  unit_met b e wake is (unit.Over at id) m = absurd m

  pub unit_over : (b : Burst) → worked p plan round core ≡ after_meeting p round ending_now (ran b) (without place core) → IsUnit p plan round core (unit.Over place t.id)
  unit_over b is = (is, runs.there)

-- what holds of all tasks of a core holds of the queued ones
pub queued_tasks : (p : Meaning) (core : ModelCore) → All (IsTask p) (tasks_of core) → All (IsTask p) core.queue
queued_tasks p core each = behind core.current each
  where
    behind : (current : Option Task) → All (IsTask p) (option_to_list current ++ core.queue) → All (IsTask p) core.queue
    behind None all = all
    behind (Some t) all = λ k d inside. all (suc k) d (omega arith)

-- what may be said of a unit
pub unit_dids : (p : Meaning) (plan : Plan) (round : ℕ) (core : ModelCore) (u : WorkUnit) → IsUnit p plan round core u
    → (worked p plan round core).dids ≡ dids_of_unit u
unit_dids p plan round core unit.Idle is = ap (λ (w : Worked). w.dids) is
unit_dids p plan round core unit.Stuck is = is.dids
unit_dids p plan round core (unit.Met place t put wake) is = ap (λ (w : Worked). w.dids) is.0
unit_dids p plan round core (unit.Over place id) is = ap (λ (w : Worked). w.dids) is.0

-- what a unit leaves of the core, where something may be said of it
pub unit_core : (p : Meaning) (plan : Plan) (round : ℕ) (core : ModelCore) (u : WorkUnit) (did : Did) → IsUnit p plan round core u
    → IsOutcomeOfWork p plan round core did → core_after_work p plan round core ≡ core_after_unit core u
unit_core p plan round core unit.Idle did is told = ap (λ (w : Worked). w.core) is
unit_core p plan round core unit.Stuck did is told = absurd (nothing_told did (subst (λ (dids : List Did). Contains dids did) is.dids told))
  where
    nothing_told : (d : Did) → Contains [] d → ⊥
    nothing_told d (k, inside, is_it) = omega arith
unit_core p plan round core (unit.Met place t put wake) did is told = ap (λ (w : Worked). w.core) is.0
unit_core p plan round core (unit.Over place id) did is told = ap (λ (w : Worked). w.core) is.0

-- A core that the seat of another or its own holds: what its calls ask, by what the seat knows.
use Rattle.std.proofs.Common.{◌≡◌, ℕ, ◌<◌, ◌≤◌, List, IsSome, Some, option_map, refl, sym, subst, arith}
use Rattle.std.specs.Prelude.{IsSomeAnd}
use Rattle.sched_base.specs.declared.limits.TheConstants.{MAX_ROUNDS}
use Rattle.sched_base.specs.declared.task.Task.{Task}
use Rattle.policy_tree.specs.Meaning.{Meaning}
use Rattle.policy_eval.specs.Fitting.{IsTask}
use Rattle.policy_eval.specs.Obligations.{MeetsHandlerObligations}
use Rattle.round_model.specs.declared.entry.Entry.{Entry}
use Rattle.round_model.specs.declared.entry.Entry.TheVariants as entry
use Rattle.round_model.specs.declared.plan.Plan.{Plan}
use Rattle.round_model.specs.declared.plan.Planned.{Planned}
use Rattle.round_model.specs.declared.state.Blocked.{Blocked}
use Rattle.round_model.specs.declared.state.ModelCore.{ModelCore}
use Rattle.round_model.specs.Fits.{Fits}
use Rattle.round_model.specs.Moves.{blocked_of, released}
use Rattle.round_model.specs.Programs.{entering_task, planned_of}
use Rattle.round_model.specs.Scenes.{entering_next, waking_next}
use Rattle.round_model.proofs.Keeping.{entering_fits}
use Rattle.core_state.specs.Views.{CoreView}
use Rattle.core_moves.specs.Code.Changes.{CanAdmit, CanRun}
use Rattle.core_moves.proofs.Found.{enters_planned, wakes_blocked}
use Rattle.core_moves.proofs.Reached.{round_within}
use Rattle.core_table.specs.declared.views.View.{View}
use Rattle.core_table.specs.Told.{IsCoreNow, IsKnown, IsLocalIn, IsSeatOf}
use Rattle.core_table.specs.Views.{holding, meaning_in, taken}
use Rattle.core_table.proofs.Drawing.{next_by_view}
use Rattle.steal_phase.specs.Attempts.{own_entries_in}
use Rattle.core_calls.specs.Code.Sends.{due_in}
use Rattle.core_calls.proofs.Local.{named_due}
use Rattle.core_calls.proofs.Standing.{blocked_fits, comes_back, may_enter, may_run}

-- who is to enter is a thread of the plan
pub enters_plan : (v : View) (plan : Plan) (a thread : ℕ) → v.plan ≡ plan → IsSomeAnd (entering_next v.plan v.round a (own_entries_in v)) (λ (t : Planned). t.id ≡ thread) → IsSome (planned_of plan thread)
enters_plan v plan a thread is next = subst (λ (x : Plan). IsSome (planned_of x thread)) is (enters_planned v.plan v.round a thread (own_entries_in v) next)

-- who is due is blocked
pub due_blocked : (round thread : ℕ) (core : ModelCore) → due_in round core ≡ Some thread → IsSome (blocked_of thread core)
due_blocked round thread core due = wakes_blocked round thread core (named_due (waking_next round core) thread due)

module _ (v : View) (q : Meaning) (plan : Plan) (is_q : meaning_in v ≡ q) (is_plan : v.plan ≡ plan) (c : ℕ) (y : CoreView) (low : c < v.plan.cores) (known : IsKnown (holding c y v)) where
  -- what holds of the view's policy and plan holds of these
  of_these : (P : Meaning → Plan → Type 0) → P (meaning_in v) v.plan → P q plan
  of_these P holds = subst (λ (x : Meaning × Plan). P x.0 x.1) (λ i. (is_q i, is_plan i)) holds

  core_now : IsCoreNow (meaning_in v) v.plan known.0 c y
  core_now = (known.1.held 0 (taken v.plan.cores c y) refl).now

  pub fits_these : Fits q plan
  fits_these = of_these Fits known.1.fits

  pub handlers_these : MeetsHandlerObligations q
  handlers_these = of_these (λ p _. MeetsHandlerObligations p) known.1.handlers

  pub task_enters : (thread : ℕ) (t : Planned) (task : Task) → planned_of plan thread ≡ Some t → task ≡ entering_task q t → IsTask q task
  task_enters thread t task is made = subst (IsTask q) (sym made) (entering_fits q plan fits_these thread t is)

  -- a thread may enter there, by the core a whose seat it is
  pub may_come : (a thread : ℕ) (reads : List ℕ) → IsSeatOf v a → IsLocalIn (holding c y v) (entry.Enter thread a c reads) → CanAdmit q y
  may_come a thread reads of_core local =
      let e : Entry = entry.Enter thread a c reads in
      let next = next_by_view (holding c y v) known.0 e (record { actor = a; acting = refl; own = record { none_due = of_core.none_due; role = of_core.role } }) known.1 local in
      of_these (λ p _. CanAdmit p y) (may_enter (meaning_in v) v.plan known.1.fits known.1.handlers known.0 known.1.legal thread a c reads y low next core_now)

  -- the core may run its unit
  pub runs : CanRun q plan y
  runs = of_these (λ p pl. CanRun p pl y) (may_run (meaning_in v) v.plan known.1.fits known.1.handlers known.0 known.1.legal c y low core_now)

  pub round_few : (round : ℕ) → round ≡ v.round → round ≤ MAX_ROUNDS
  round_few round is = let within = round_within (meaning_in v) v.plan known.1.limits known.0 known.1.legal in let dated = known.1.dated.round in omega arith

  -- a thread that is due has left it, and may come back
  module _ (round thread : ℕ) (due : due_in round y.core ≡ Some thread) where
    pub task_wakes : (t : Task) → option_map (λ (b : Blocked). b.task) (blocked_of thread y.core) ≡ Some t → IsTask q t
    task_wakes t is = of_these (λ p _. IsTask p t) (blocked_fits (meaning_in v) v.plan known.1.fits known.1.handlers known.0 known.1.legal thread c y low core_now t is)

    pub may_return : (z : CoreView) → z ≡ record y { core = released thread y.core } → CanAdmit q z
    may_return z left =
        of_these (λ p _. CanAdmit p z)
        (comes_back (meaning_in v) v.plan known.1.fits known.1.handlers known.0 known.1.legal thread c y low core_now z left (due_blocked round thread y.core due))

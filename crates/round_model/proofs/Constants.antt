-- No entry changes the constants of a core.
use Rattle.std.proofs.Common.{◌≡◌, ℕ, ℤ, Bool, true, false, cond, List, [], ◌∷◌, Option, Some, None, refl, ◌∙◌, fold, ◌==◌}
use Rattle.sched_base.specs.declared.task.Task.{Task}
use Rattle.policy_tree.specs.declared.typed.Event.{Event}
use Rattle.policy_tree.specs.declared.typed.Put.{Put}
use Rattle.policy_tree.specs.declared.typed.Put.TheVariants as put
use Rattle.policy_tree.specs.Meaning.{Meaning}
use Rattle.policy_eval.specs.Events.{outcomes_of}
use Rattle.policy_eval.specs.Orders.{best_and_rest}
use Rattle.round_model.specs.declared.entry.Entry.{Entry}
use Rattle.round_model.specs.declared.entry.Entry.TheVariants as entry
use Rattle.round_model.specs.declared.plan.Burst.{Burst}
use Rattle.round_model.specs.declared.plan.Plan.{Plan}
use Rattle.round_model.specs.declared.plan.Planned.{Planned}
use Rattle.round_model.specs.declared.state.Blocked.{Blocked}
use Rattle.round_model.specs.declared.state.ModelCore.{ModelCore}
use Rattle.round_model.specs.After.{after_from, effect, entered, moved, round_after, stolen, woken}
use Rattle.round_model.specs.Cores.{Cores, opening_state}
use Rattle.round_model.specs.Entries.{touches}
use Rattle.round_model.specs.Laws.{ConstantsLaw}
use Rattle.round_model.specs.Moves.{admitted, blocked_of, core_after_event, handed_all, received_all, released, taken_from, with_outcome, with_task}
use Rattle.round_model.specs.Programs.{Meeting, blocking, burst_of, ending_now, meeting_of, planned_of, tick, yielding}
use Rattle.round_model.specs.Work.{after_meeting, after_unit, before, core_after_work, elected, elected_over, run_over, with_current, worked}

with_task-consts : (where_to : Put) (wake : ℕ) (t : Task) (core : ModelCore) → (with_task where_to wake t core).consts ≡ core.consts
with_task-consts put.Queue wake t core = refl
with_task-consts put.Keep wake t core = refl
with_task-consts put.Block wake t core = refl

outcomes-consts : (wake : ℕ) (outcomes : List (Task × Put)) (core : ModelCore) → (fold (with_outcome wake) core outcomes).consts ≡ core.consts
outcomes-consts wake [] core = refl
outcomes-consts wake (o ∷ os) core = outcomes-consts wake os (with_outcome wake core o) ∙ with_task-consts o.1 wake o.0 core

core_after_event-consts : (p : Meaning) (e : Event) (fresh : Bool) (wake : ℕ) (t : Task) (core : ModelCore) → (core_after_event p e fresh wake t core).consts ≡ core.consts
unfolding core_after_event
core_after_event-consts p e fresh wake t core = outcomes-consts wake (outcomes_of p e fresh core.consts t) core

cond-consts : (b : Bool) (x y : ModelCore) (consts : List ℤ) → x.consts ≡ consts → y.consts ≡ consts → (cond b x y).consts ≡ consts
cond-consts true x y consts left right = left
cond-consts false x y consts left right = right

released-consts : (id : ℕ) (core : ModelCore) → (released id core).consts ≡ core.consts
unfolding released
released-consts id core = refl

with_current-consts : (core : ModelCore) (best : Option (Task × List Task)) → (with_current core best).consts ≡ core.consts
with_current-consts core None = refl
with_current-consts core (Some best) = refl

elected_over-consts : (p : Meaning) (core : ModelCore) (current : Option Task) → (elected_over p core current).consts ≡ core.consts
elected_over-consts p core None = with_current-consts core (best_and_rest (before p.elect) core.queue)
elected_over-consts p core (Some t) = refl

after_meeting-consts : (p : Meaning) (round : ℕ) (meeting : Meeting) (t : Task) (core : ModelCore) → (after_meeting p round meeting t core).core.consts ≡ core.consts
after_meeting-consts p round tick t core = core_after_event-consts p _ _ _ t core
after_meeting-consts p round yielding t core = core_after_event-consts p _ _ _ t core
after_meeting-consts p round (blocking rounds) t core = core_after_event-consts p _ _ _ t core
after_meeting-consts p round ending_now t core = refl

after_unit-consts : (p : Meaning) (round : ℕ) (core : ModelCore) (t : Task) (b : Option Burst) → (after_unit p round core t b).core.consts ≡ core.consts
after_unit-consts p round core t None = refl
after_unit-consts p round core t (Some b) = after_meeting-consts p round (meeting_of b t.place) _ (record core { current = None })

run_over-consts : (p : Meaning) (plan : Plan) (round : ℕ) (core : ModelCore) (current : Option Task) → (run_over p plan round core current).core.consts ≡ core.consts
run_over-consts p plan round core None = refl
run_over-consts p plan round core (Some t) = after_unit-consts p round core t (burst_of plan t)

worked-consts : (p : Meaning) (plan : Plan) (round : ℕ) (core : ModelCore) → (core_after_work p plan round core).consts ≡ core.consts
unfolding worked
worked-consts p plan round core = run_over-consts p plan round (elected p core) (elected p core).current ∙ elected_over-consts p core core.current

entered-consts : (p : Meaning) (t : Option Planned) (core : ModelCore) → (entered p t core).consts ≡ core.consts
entered-consts p None core = refl
entered-consts p (Some t) core = core_after_event-consts p _ _ _ _ core

woken-consts : (p : Meaning) (by at c : ℕ) (b : Option Blocked) (core : ModelCore) → (woken p by at c b core).consts ≡ core.consts
woken-consts p by at c None core = refl
woken-consts p by at c (Some b) core =
    let left : ModelCore = cond (by == c) (released b.task.id core) core in
    let same : left.consts ≡ core.consts = cond-consts (by == c) (released b.task.id core) core core.consts (released-consts b.task.id core) refl in
    cond-consts (at == c) (admitted p false b.task left) left core.consts (core_after_event-consts p _ _ _ b.task left ∙ same) same

stolen-consts : (by from c : ℕ) (threads : List ℕ) (victim core : ModelCore) → (stolen by from c threads victim core).consts ≡ core.consts
unfolding handed_all received_all
stolen-consts by from c threads victim core =
    let left : ModelCore = cond (from == c) (handed_all threads core) core in
    let same : left.consts ≡ core.consts = cond-consts (from == c) (handed_all threads core) core core.consts refl refl in
    cond-consts (by == c) (received_all (taken_from threads victim.queue).found left) left core.consts same same

effect-consts : (p : Meaning) (plan : Plan) (round : ℕ) (e : Entry) (m : Cores) (c : ℕ) → (effect p plan round e m c).consts ≡ (m c).consts
unfolding effect
effect-consts p plan round (entry.Round number) m c = refl
effect-consts p plan round (entry.Enter thread by at reads) m c = entered-consts p (planned_of plan thread) (m c)
effect-consts p plan round (entry.Wake thread by at reads) m c = woken-consts p by at c (blocked_of thread (m by)) (m c)
effect-consts p plan round (entry.Work by what) m c = worked-consts p plan round (m c)
effect-consts p plan round (entry.Steal by from threads reads) m c = stolen-consts by from c threads (m from) (m c)
effect-consts p plan round (entry.Fail by from reads) m c = refl
effect-consts p plan round (entry.Pass by reads) m c = refl

after_from-consts : (p : Meaning) (plan : Plan) (round : ℕ) (m : Cores) (h : List Entry) (c : ℕ) → (after_from p plan round m h c).consts ≡ (m c).consts
unfolding after_from
after_from-consts p plan round m [] c = refl
after_from-consts p plan round m (e ∷ es) c =
    after_from-consts p plan (round_after round e) (moved p plan round e m) es c
    ∙ cond-consts (touches c e) (effect p plan round e m c) (m c) (m c).consts (effect-consts p plan round e m c) refl

pub constants : ConstantsLaw
unfolding opening_state
constants p plan h c = after_from-consts p plan 0 (opening_state plan) h c

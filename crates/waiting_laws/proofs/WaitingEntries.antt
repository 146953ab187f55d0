-- What one legal entry makes of each core, for each class of policies by what a unit makes of its core.
use Rattle.std.proofs.Common.{◌≡◌, ℕ, ◌==◌, ◌||◌, eqb, Bool, true, false, cond, List, Option, Some, None, Contains, refl, ap, subst, arith}
use Rattle.std.proofs.lemmas.Bool.Decides.{nat_tests}
use Rattle.sched_base.specs.declared.task.Task.{Task}
use Rattle.policy_tree.specs.Meaning.{Meaning}
use Rattle.policy_eval.specs.Resolved.{IsResolved}
use Rattle.round_model.specs.declared.entry.Did.{Did}
use Rattle.round_model.specs.declared.entry.Entry.{Entry}
use Rattle.round_model.specs.declared.entry.Entry.TheVariants as entry
use Rattle.round_model.specs.declared.plan.Plan.{Plan}
use Rattle.round_model.specs.declared.plan.Planned.{Planned}
use Rattle.round_model.specs.declared.state.Blocked.{Blocked}
use Rattle.round_model.specs.declared.state.ModelCore.{ModelCore}
use Rattle.round_model.specs.After.{effect, entered, moved, woken}
use Rattle.round_model.specs.Fitting.{MayBeSaid}
use Rattle.round_model.specs.Cores.{Cores}
use Rattle.round_model.specs.Entries.{touches}
use Rattle.round_model.specs.Moves.{admitted, blocked_of, handed_all, received_all, released, taken_from}
use Rattle.round_model.specs.Programs.{entering_task, planned_of}
use Rattle.round_model.specs.Work.{IsOutcomeOfWork, core_after_work}
use Rattle.waiting_laws.specs.Waiting.{IsInPlace, is_unit_of}
use Rattle.waiting_laws.proofs.WaitingPlaces.{HasNumber, IsWithin, place-append, place-left}
use Rattle.waiting_laws.proofs.WaitingSteps.{KeepsPlaces, enqueue_keeps, places_then, same_places}

-- the entry doesn't steal the thread from the core
abbrev pub Spares : (x c : ℕ) → Entry → Type 0
Spares x c e = (by : ℕ) (threads reads : List ℕ) → e ≡ entry.Steal by c threads reads → ¬ Contains threads x

-- what an entry makes of a core: it is no unit of it, makes nobody current and sets no thread back, or it is a unit of it
pub data Step (IsUnit : ModelCore → ModelCore → Did → Type 0) (c : ℕ) (e : Entry) (old new : ModelCore) : Type 0 where
  waits : is_unit_of c e ≡ false → new.current ≡ old.current → ((x place : ℕ) → Spares x c e → IsInPlace x old.queue place → IsWithin (HasNumber x) new.queue place) → Step IsUnit c e old new
  works : (what : Did) → e ≡ entry.Work c what → IsUnit old new what → Step IsUnit c e old new

-- one of two cores
either_keeps : (b : Bool) (new old : ModelCore) → KeepsPlaces old new → KeepsPlaces old (cond b new old)
either_keeps true new old keeps = keeps
either_keeps false new old keeps = same_places old

kept : (IsUnit : ModelCore → ModelCore → Did → Type 0) (c : ℕ) (e : Entry) (old new : ModelCore) → is_unit_of c e ≡ false → KeepsPlaces old new → Step IsUnit c e old new
kept IsUnit c e old new no_unit keeps = waits no_unit keeps.current (λ x place spares is. (place, omega arith, keeps.places x place is))

-- a steal, by whether the core is the thief and whether it is the victim
module _ (threads : List ℕ) (found : List Task) (core : ModelCore) where
  abbrev robbed : (thief victim : Bool) → ModelCore
  robbed thief victim = let left : ModelCore = cond victim (handed_all threads core) core in cond (thief || victim) (cond thief (received_all found left) left) core

  robbed_current : (thief victim : Bool) → (robbed thief victim).current ≡ core.current
  unfolding handed_all received_all
  robbed_current true true = refl
  robbed_current true false = refl
  robbed_current false true = refl
  robbed_current false false = refl

  spared : {x : ℕ} → ¬ Contains threads x → (t : Task) → HasNumber x t → ¬ Contains threads t.id
  spared none t is found = none (subst (Contains threads) is found)

  robbed_places : (thief victim : Bool) (x : ℕ) → (victim ≡ true → ¬ Contains threads x) → (place : ℕ) → IsInPlace x core.queue place → IsWithin (HasNumber x) (robbed thief victim).queue place
  unfolding handed_all received_all
  robbed_places true true x spares place is =
      let left = place-left (HasNumber x) threads (spared (spares refl)) core.queue place is in
      (left.0, left.1, place-append (HasNumber x) (taken_from threads core.queue).left found left.0 left.2)
  robbed_places true false x spares place is = (place, omega arith, place-append (HasNumber x) core.queue found place is)
  robbed_places false true x spares place is = place-left (HasNumber x) threads (spared (spares refl)) core.queue place is
  robbed_places false false x spares place is = (place, omega arith, is)

module _ (p : Meaning) (resolved : IsResolved p) where
  entered_keeps : (found : Option Planned) (core : ModelCore) → KeepsPlaces core (entered p found core)
  entered_keeps None core = same_places core
  entered_keeps (Some t) core = enqueue_keeps p resolved true (entering_task p t) core

  released_keeps : (id : ℕ) (core : ModelCore) → KeepsPlaces core (released id core)
  unfolding released
  released_keeps id core = record { current = refl; places = λ x place is. is }

  woken_keeps : (by at c : ℕ) (found : Option Blocked) (core : ModelCore) → KeepsPlaces core (woken p by at c found core)
  woken_keeps by at c None core = same_places core
  woken_keeps by at c (Some b) core =
      let left : ModelCore = cond (by == c) (released b.task.id core) core in
      places_then core left (cond (at == c) (admitted p false b.task left) left)
      (either_keeps (by == c) (released b.task.id core) core (released_keeps b.task.id core))
      (either_keeps (at == c) (admitted p false b.task left) left (enqueue_keeps p resolved false b.task left))

  module _ (plan : Plan) (round : ℕ) (m : Cores) (c : ℕ) (IsUnit : ModelCore → ModelCore → Did → Type 0)
      (unit : (what : Did) → IsOutcomeOfWork p plan round (m c) what → IsUnit (m c) (core_after_work p plan round (m c)) what) where
    work_step : (by : ℕ) (what : Did) → IsOutcomeOfWork p plan round (m by) what → Step IsUnit c (entry.Work by what) (m c) (moved p plan round (entry.Work by what) m c)
    unfolding touches effect
    work_step by what said =
        elim (eqb by c) as (λ b. eqb by c ≡ b → Step IsUnit c (entry.Work by what) (m c) (cond b (core_after_work p plan round (m c)) (m c))) [
          | true ↦ λ same. let here : by ≡ c = grind (arith, nat_tests) in
              works what (ap (λ (k : ℕ). entry.Work k what) here) (unit what (subst (λ k. IsOutcomeOfWork p plan round (m k) what) here said))
          | false ↦ λ other. kept IsUnit c (entry.Work by what) (m c) (m c) other (same_places (m c))
        ] refl

    steal_step : (by from : ℕ) (threads reads : List ℕ) → Step IsUnit c (entry.Steal by from threads reads) (m c) (moved p plan round (entry.Steal by from threads reads) m c)
    unfolding touches effect
    steal_step by from threads reads =
        let found = (taken_from threads (m from).queue).found in
        waits refl (robbed_current threads found (m c) (eqb by c) (eqb from c))
        (λ x place spares is. robbed_places threads found (m c) (eqb by c) (eqb from c) x
        (λ same. let there : from ≡ c = grind (arith, nat_tests) in spares by threads reads (ap (λ (k : ℕ). entry.Steal by k threads reads) there)) place is)

    -- what an entry makes of the core
    pub entry_step : (e : Entry) → MayBeSaid p plan round m e → Step IsUnit c e (m c) (moved p plan round e m c)
    unfolding touches effect
    entry_step (entry.Round number) said = kept IsUnit c (entry.Round number) (m c) (moved p plan round (entry.Round number) m c) refl (either_keeps (touches c (entry.Round number)) (m c) (m c) (same_places (m c)))
    entry_step (entry.Enter thread by at reads) said =
        kept IsUnit c (entry.Enter thread by at reads) (m c) (moved p plan round (entry.Enter thread by at reads) m c) refl
        (either_keeps (at == c) (entered p (planned_of plan thread) (m c)) (m c) (entered_keeps (planned_of plan thread) (m c)))
    entry_step (entry.Wake thread by at reads) said =
        kept IsUnit c (entry.Wake thread by at reads) (m c) (moved p plan round (entry.Wake thread by at reads) m c) refl
        (either_keeps ((by == c) || (at == c)) (woken p by at c (blocked_of thread (m by)) (m c)) (m c) (woken_keeps by at c (blocked_of thread (m by)) (m c)))
    entry_step (entry.Work by what) said = work_step by what said
    entry_step (entry.Steal by from threads reads) said = steal_step by from threads reads
    entry_step (entry.Fail by from reads) said =
        kept IsUnit c (entry.Fail by from reads) (m c) (moved p plan round (entry.Fail by from reads) m c) refl (either_keeps (touches c (entry.Fail by from reads)) (m c) (m c) (same_places (m c)))
    entry_step (entry.Pass by reads) said =
        kept IsUnit c (entry.Pass by reads) (m c) (moved p plan round (entry.Pass by reads) m c) refl (either_keeps (touches c (entry.Pass by reads)) (m c) (m c) (same_places (m c)))

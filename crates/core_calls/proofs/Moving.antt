-- What each entry makes of the cores that a seat holds.
use Rattle.std.proofs.Common.{◌≡◌, ◌≢◌, ℕ, ◌<◌, ◌||◌, eqb, Bool, true, false, cond, List, [], ◌∷◌, Option, Some, refl, sym, ap, ◌∙◌, arith, eq-eqb, ne_eqb}
use Rattle.std.proofs.lemmas.Bool.Decides.{nat_tests}
use mathlib.Core.Option.{some}
use lib.ListN.{get_elem?}
use Rattle.sched_base.specs.declared.task.Task.{Task}
use Rattle.policy_tree.specs.Meaning.{Meaning}
use Rattle.round_model.specs.declared.entry.Did.{Did}
use Rattle.round_model.specs.declared.entry.Entry.{Entry}
use Rattle.round_model.specs.declared.entry.Entry.TheVariants as entry
use Rattle.round_model.specs.declared.plan.Plan.{Plan}
use Rattle.round_model.specs.declared.plan.Planned.{Planned}
use Rattle.round_model.specs.declared.state.Blocked.{Blocked}
use Rattle.round_model.specs.declared.state.ModelCore.{ModelCore}
use Rattle.round_model.specs.After.{effect, entered, moved, woken}
use Rattle.round_model.specs.Cores.{Cores}
use Rattle.round_model.specs.Entries.{touches}
use Rattle.round_model.specs.Moves.{admitted, blocked_of, is_blocked_task, released}
use Rattle.round_model.specs.Programs.{entering_task, planned_of}
use Rattle.round_model.specs.Work.{core_after_work}
use Rattle.round_model.proofs.Finding.{find-passes}
use Rattle.core_state.specs.Views.{CoreView}
use Rattle.core_table.specs.declared.views.HeldCore.{HeldCore}
use Rattle.core_table.specs.declared.views.View.{View}
use Rattle.core_table.specs.Pairs.{HasMovedTwo, holding_two}
use Rattle.core_table.specs.Public.{HasMoved, IsMoved}
use Rattle.core_table.specs.Views.{holding, meaning_in, taken}
use Rattle.core_table.proofs.TwoHeld.{first_place, second_place}
use Rattle.steal_phase.proofs.Moving.{moves_two, touches_first, touches_second}
use Rattle.core_calls.specs.Code.Sends.{SendsOne}

-- each entry that touches one core alone, by what it leaves of that
module _ (v : View) (c : ℕ) (y z : CoreView) (free : v.held ≡ []) (low : c < v.plan.cores) where
  one_moved : (e : Entry) → ((d : ℕ) → touches d e ≡ eqb c d) → ((m : Cores) → m c ≡ y.core → z ≡ record y { core = moved (meaning_in v) v.plan v.round e m c }) → HasMoved e (holding c y v) c z
  one_moved e touched leaves = record {
    of = taken v.plan.cores c y;
    only = λ k. taken v.plan.cores c y ∷ free k;
    core = refl;
    is = λ m agree. leaves m (agree 0 (taken v.plan.cores c y) refl);
    there = low;
    touched = touched c ∙ eq-eqb c c refl;
    alone = λ d is. let test : eqb c d ≡ true = sym (touched d) ∙ is in let same : c ≡ d = grind (arith, nat_tests) in sym same;
  }

  pub enter_moved : (thread by : ℕ) (reads : List ℕ) (t : Planned) (task : Task) → planned_of v.plan thread ≡ Some t → task ≡ entering_task (meaning_in v) t
      → z ≡ record y { core = admitted (meaning_in v) true task y.core } → HasMoved (entry.Enter thread by c reads) (holding c y v) c z
  unfolding touches effect
  enter_moved thread by reads t task planned made came =
      one_moved (entry.Enter thread by c reads) (λ d. refl)
      (λ m own. came ∙ (λ k. record y {
        core = (
            ap (λ (x : Task). admitted (meaning_in v) true x y.core) made
            ∙ (ap (λ (o : Option Planned). entered (meaning_in v) o y.core) (sym planned)
            ∙ (ap (entered (meaning_in v) (planned_of v.plan thread)) (sym own)
            ∙ ap (λ b. cond b (entered (meaning_in v) (planned_of v.plan thread) (m c)) (m c)) (sym (eq-eqb c c refl))))) k;
      }))

  pub work_moved : (did : Did) → z ≡ record y { core = core_after_work (meaning_in v) v.plan v.round y.core } → HasMoved (entry.Work c did) (holding c y v) c z
  unfolding touches effect
  work_moved did ran =
      one_moved (entry.Work c did) (λ d. refl)
      (λ m own. ran ∙ (λ k. record y {
        core = (
            ap (core_after_work (meaning_in v) v.plan v.round) (sym own)
            ∙ ap (λ b. cond b (core_after_work (meaning_in v) v.plan v.round (m c)) (m c)) (sym (eq-eqb c c refl))) k;
      }))

  -- a thread that wakes on the core where it was blocked
  pub wake_moved : (thread : ℕ) (reads : List ℕ) (b : Blocked) → blocked_of thread y.core ≡ Some b
      → z ≡ record y { core = admitted (meaning_in v) false b.task (released thread y.core) } → HasMoved (entry.Wake thread c c reads) (holding c y v) c z
  unfolding touches effect
  wake_moved thread reads b is came =
      let named : b.task.id ≡ thread = let test = find-passes (is_blocked_task thread) y.core.blocked b is in grind (arith, nat_tests) in
      one_moved (entry.Wake thread c c reads) (λ d. both (eqb c d))
      (λ m own. came ∙ (λ k. record y {
        core = (
            ap (λ id. admitted (meaning_in v) false b.task (released id y.core)) (sym named)
            ∙ (ap (λ x. let left : ModelCore = cond x (released b.task.id y.core) y.core in cond x (admitted (meaning_in v) false b.task left) left) (sym (eq-eqb c c refl))
            ∙ (ap (λ (o : Option Blocked). woken (meaning_in v) c c c o y.core) (sym is)
            ∙ (ap (λ (x : ModelCore). woken (meaning_in v) c c c (blocked_of thread x) x) (sym own)
            ∙ ap (λ x. cond x (woken (meaning_in v) c c c (blocked_of thread (m c)) (m c)) (m c)) (sym (both (eqb c c) ∙ eq-eqb c c refl)))))) k;
      }))
    where
      both : (x : Bool) → (x || x) ≡ x
      both true = refl
      both false = refl

-- a thread that wakes on another core, at the one and at the other
touches_two : (c a b thread : ℕ) (reads : List ℕ) → touches c (entry.Wake thread a b reads) ≡ (eqb a c || eqb b c)
unfolding touches
touches_two c a b thread reads = refl

module _ (a b thread : ℕ) (reads : List ℕ) where
  touches_own : touches a (entry.Wake thread a b reads) ≡ true
  touches_own = touches_first (entry.Wake thread a b reads) a b (λ c. touches_two c a b thread reads)

  touches_other : touches b (entry.Wake thread a b reads) ≡ true
  touches_other = touches_second (entry.Wake thread a b reads) a b (λ c. touches_two c a b thread reads)

module _ (p : Meaning) (plan : Plan) (round : ℕ) (m : Cores) (a b thread : ℕ) (reads : List ℕ) (apart : a ≢ b) (x : Blocked) (found : blocked_of thread (m a) ≡ Some x) where
  wake_leaves : moved p plan round (entry.Wake thread a b reads) m a ≡ released thread (m a)
  unfolding effect
  wake_leaves =
      let named : x.task.id ≡ thread = let test = find-passes (is_blocked_task thread) (m a).blocked x found in grind (arith, nat_tests) in
      ap (λ k. cond k (woken p a b a (blocked_of thread (m a)) (m a)) (m a)) (touches_own a b thread reads)
      ∙ (ap (λ o. woken p a b a o (m a)) found
      ∙ (ap (λ k. let left : ModelCore = cond k (released x.task.id (m a)) (m a) in cond (eqb b a) (admitted p false x.task left) left) (eq-eqb a a refl)
      ∙ (ap (λ k. cond k (admitted p false x.task (released x.task.id (m a))) (released x.task.id (m a))) (ne_eqb b a (λ e. apart (sym e)))
      ∙ ap (λ id. released id (m a)) named)))

  wake_comes : moved p plan round (entry.Wake thread a b reads) m b ≡ admitted p false x.task (m b)
  unfolding effect
  wake_comes =
      ap (λ k. cond k (woken p a b b (blocked_of thread (m a)) (m b)) (m b)) (touches_other a b thread reads)
      ∙ (ap (λ o. woken p a b b o (m b)) found
      ∙ (ap (λ k. let left : ModelCore = cond k (released x.task.id (m b)) (m b) in cond (eqb b b) (admitted p false x.task left) left) (ne_eqb a b apart)
      ∙ ap (λ k. cond k (admitted p false x.task (m b)) (m b)) (eq-eqb b b refl)))

-- the seat holds both cores, as y and z
module _ (v : View) (a b thread : ℕ) (reads : List ℕ) (y z : CoreView) (apart : a ≢ b) (i j : ℕ) (own : get_elem? v.held i ≡ some (taken v.plan.cores a y)) (other : get_elem? v.held j ≡ some (taken v.plan.cores b z))
    (left came : CoreView) (sent : SendsOne (meaning_in v) thread y z left came) where
  own_moved : IsMoved (entry.Wake thread a b reads) v (taken v.plan.cores a y) left
  own_moved m agree =
      let mine : m a ≡ y.core = agree i (taken v.plan.cores a y) own in
      sent.left ∙ (λ k. record y { core = (ap (released thread) (sym mine) ∙ sym (wake_leaves (meaning_in v) v.plan v.round m a b thread reads apart sent.blocked (ap (blocked_of thread) mine ∙ sent.found))) k })

  other_moved : IsMoved (entry.Wake thread a b reads) v (taken v.plan.cores b z) came
  other_moved m agree =
      let mine : m a ≡ y.core = agree i (taken v.plan.cores a y) own in let theirs : m b ≡ z.core = agree j (taken v.plan.cores b z) other in
      sent.came ∙ (λ k. record z {
        core = (ap (admitted (meaning_in v) false sent.blocked.task) (sym theirs)
            ∙ sym (wake_comes (meaning_in v) v.plan v.round m a b thread reads apart sent.blocked (ap (blocked_of thread) mine ∙ sent.found))) k;
      })

-- both are held, in whatever order they were taken
pub sent_both : (v : View) (a b thread : ℕ) (reads : List ℕ) (y z left came : CoreView) → a ≢ b → v.held ≡ [] → SendsOne (meaning_in v) thread y z left came → a < v.plan.cores → b < v.plan.cores
    → HasMovedTwo (entry.Wake thread a b reads) (holding_two a y b z v) a left b came
sent_both v a b thread reads y z left came apart free sent inside above =
    let w : View = holding_two a y b z v in let own : HeldCore = taken v.plan.cores a y in let other : HeldCore = taken v.plan.cores b z in
    let here = first_place a b own other v.held in let there = second_place a b own other v.held in
    moves_two (entry.Wake thread a b reads) a b (λ c. touches_two c a b thread reads) v y z left came apart free inside above
    (own_moved w a b thread reads y z apart here.0 there.0 here.1 there.1 left came sent) (other_moved w a b thread reads y z apart here.0 there.0 here.1 there.1 left came sent)

-- What an entry makes of the cores, as changes of one core after the other.
use Rattle.std.proofs.Common.{◌≡◌, ◌≢◌, ℕ, ◌==◌, ◌||◌, Bool, true, false, cond, eqb, List, [], ◌∷◌, fold, All, Option, Some, None, IfSome, option_map, refl, sym, ap, ◌∙◌, subst, arith}
use Rattle.std.proofs.lemmas.Bool.Decides.{nat_tests}
use Rattle.sched_base.specs.declared.task.Task.{Task}
use Rattle.policy_tree.specs.declared.typed.Put.{Put}
use Rattle.policy_tree.specs.declared.typed.Put.TheVariants as put
use Rattle.policy_tree.specs.declared.typed.Event.TheVariants as event
use Rattle.policy_tree.specs.Meaning.{Meaning}
use Rattle.policy_eval.specs.Events.{outcomes_of}
use Rattle.policy_eval.specs.Fitting.{IsTask}
use Rattle.round_model.specs.declared.entry.Did.{Did}
use Rattle.round_model.specs.declared.entry.Entry.TheVariants as entry
use Rattle.round_model.specs.declared.plan.Plan.{Plan}
use Rattle.round_model.specs.declared.plan.Planned.{Planned}
use Rattle.round_model.specs.declared.state.Blocked.{Blocked}
use Rattle.round_model.specs.declared.state.ModelCore.{ModelCore}
use Rattle.round_model.specs.After.{effect, entered, moved, woken}
use Rattle.round_model.specs.Cores.{Cores}
use Rattle.round_model.specs.Entries.{touches}
use Rattle.round_model.specs.Moves.{admitted, blocked_of, core_after_event, handed_all, is_blocked_task, received_all, released, taken_from, with_outcome, with_task}
use Rattle.round_model.specs.Programs.{planned_of}
use Rattle.round_model.specs.Updates.{updated}
use Rattle.round_model.specs.Work.{core_after_work}
use Rattle.round_model.proofs.Finding.{find-All, find-append, find-passes, without_first-append}

-- a task that is put somewhere, and a blocked one that leaves
released-with_task : (id wake : ℕ) (t : Task) (b : Blocked) (where_to : Put) (core : ModelCore) → blocked_of id core ≡ Some b
    → released id (with_task where_to wake t core) ≡ with_task where_to wake t (released id core)
unfolding released
released-with_task id wake t b put.Queue core is = refl
released-with_task id wake t b put.Keep core is = refl
released-with_task id wake t b put.Block core is =
    ap (λ (blocked : List Blocked). let left : ModelCore = record core { blocked = blocked } in left)
    (without_first-append (is_blocked_task id) core.blocked (record { task = t; wake = wake } ∷ []) b is)

blocked-with_task : (id wake : ℕ) (t : Task) (b : Blocked) (where_to : Put) (core : ModelCore) → blocked_of id core ≡ Some b → blocked_of id (with_task where_to wake t core) ≡ Some b
blocked-with_task id wake t b put.Queue core is = is
blocked-with_task id wake t b put.Keep core is = is
blocked-with_task id wake t b put.Block core is = find-append (is_blocked_task id) core.blocked (record { task = t; wake = wake } ∷ []) b is

released-outcomes : (id wake : ℕ) (b : Blocked) (outcomes : List (Task × Put)) (core : ModelCore) → blocked_of id core ≡ Some b
    → released id (fold (with_outcome wake) core outcomes) ≡ fold (with_outcome wake) (released id core) outcomes
released-outcomes id wake b [] core is = refl
released-outcomes id wake b (o ∷ outcomes) core is =
    released-outcomes id wake b outcomes (with_outcome wake core o) (blocked-with_task id wake o.0 b o.1 core is)
    ∙ ap (λ (c : ModelCore). fold (with_outcome wake) c outcomes) (released-with_task id wake o.0 b o.1 core is)

pub blocked-outcomes : (id wake : ℕ) (b : Blocked) (outcomes : List (Task × Put)) (core : ModelCore) → blocked_of id core ≡ Some b
    → blocked_of id (fold (with_outcome wake) core outcomes) ≡ Some b
blocked-outcomes id wake b [] core is = is
blocked-outcomes id wake b (o ∷ outcomes) core is = blocked-outcomes id wake b outcomes (with_outcome wake core o) (blocked-with_task id wake o.0 b o.1 core is)

-- a thread that comes to a core, and a blocked one that leaves
released-admitted : (p : Meaning) (fresh : Bool) (t : Task) (id : ℕ) (b : Blocked) (core : ModelCore) → blocked_of id core ≡ Some b
    → released id (admitted p fresh t core) ≡ admitted p fresh t (released id core)
unfolding core_after_event released
released-admitted p fresh t id b core is = released-outcomes id 0 b (outcomes_of p event.Enqueue fresh core.consts t) core is

-- a change of one core and then of another, which may be the same
put_then_take : (m : Cores) (a b : ℕ) (f g : ModelCore → ModelCore) → (a ≡ b → g (f (m a)) ≡ f (g (m a))) → (c : ℕ)
    → updated (updated m a (f (m a))) b (g (updated m a (f (m a)) b)) c ≡ (let left : ModelCore = cond (b == c) (g (m c)) (m c) in cond (a == c) (f left) left)
put_then_take m a b f g commute c =
    elim (eqb b c) as (λ x. eqb b c ≡ x → cond x (g (cond (eqb a b) (f (m a)) (m b))) (cond (eqb a c) (f (m a)) (m c)) ≡ cond (eqb a c) (f (cond x (g (m c)) (m c))) (cond x (g (m c)) (m c))) [
      | true ↦ λ there. let at : b ≡ c = grind (arith, nat_tests) in
          elim (eqb a c) as (λ y. eqb a c ≡ y → g (cond (eqb a b) (f (m a)) (m b)) ≡ cond y (f (g (m c))) (g (m c))) [
            | true ↦ λ here. let same : a ≡ b = grind (arith, nat_tests) in let e : eqb a b ≡ true = grind (arith, nat_tests) in let own : a ≡ c = same ∙ at in
                ap (λ z. g (cond z (f (m a)) (m b))) e ∙ (commute same ∙ ap (λ k. f (g (m k))) own)
            | false ↦ λ elsewhere. let e : eqb a b ≡ false = grind (arith, nat_tests) in ap (λ z. g (cond z (f (m a)) (m b))) e ∙ ap (λ k. g (m k)) at
          ] refl
      | false ↦ λ elsewhere.
          elim (eqb a c) as (λ y. eqb a c ≡ y → cond y (f (m a)) (m c) ≡ cond y (f (m c)) (m c)) [
            | true ↦ λ here. let own : a ≡ c = grind (arith, nat_tests) in ap (λ k. f (m k)) own
            | false ↦ λ none. refl
          ] refl
    ] refl

-- a core that neither change concerns stays
untouched_left : (x y : Bool) (f g : ModelCore → ModelCore) (core : ModelCore)
    → cond (x || y) (let left : ModelCore = cond y (g core) core in cond x (f left) left) core ≡ (let left : ModelCore = cond y (g core) core in cond x (f left) left)
untouched_left true y f g core = refl
untouched_left false true f g core = refl
untouched_left false false f g core = refl

untouched_right : (x y : Bool) (f g : ModelCore → ModelCore) (core : ModelCore)
    → cond (y || x) (let left : ModelCore = cond y (g core) core in cond x (f left) left) core ≡ (let left : ModelCore = cond y (g core) core in cond x (f left) left)
untouched_right x true f g core = refl
untouched_right true false f g core = refl
untouched_right false false f g core = refl

module _ (p : Meaning) (plan : Plan) (round : ℕ) (m : Cores) where
  -- a steal: what it finds at the victim leaves it and comes to the thief
  pub moved_steal : (by from : ℕ) (threads reads : List ℕ) → by ≢ from → (c : ℕ)
      → updated (updated m by (received_all (taken_from threads (m from).queue).found (m by))) from (handed_all threads (m from)) c
      ≡ moved p plan round (entry.Steal by from threads reads) m c
  unfolding touches effect
  moved_steal by from threads reads apart c =
      elim (eqb from c) as (λ x. eqb from c ≡ x → cond x (handed_all threads (m from)) (cond (by == c) (received_all found (m by)) (m c))
      ≡ cond ((by == c) || x) (let left : ModelCore = cond x (handed_all threads (m c)) (m c) in cond (by == c) (received_all found left) left) (m c)) [
        | true ↦ λ there. elim (eqb by c) as (λ y. eqb by c ≡ y → handed_all threads (m from)
            ≡ cond (y || true) (cond y (received_all found (handed_all threads (m c))) (handed_all threads (m c))) (m c)) [
              | true ↦ λ here. absurd (apart (grind (arith, nat_tests)))
              | false ↦ λ elsewhere. let at : from ≡ c = grind (arith, nat_tests) in ap (λ k. handed_all threads (m k)) at
            ] refl
        | false ↦ λ other. elim (eqb by c) as (λ y. eqb by c ≡ y → cond y (received_all found (m by)) (m c)
            ≡ cond (y || false) (cond y (received_all found (m c)) (m c)) (m c)) [
              | true ↦ λ here. let own : by ≡ c = grind (arith, nat_tests) in ap (λ k. received_all found (m k)) own
              | false ↦ λ none. refl
            ] refl
      ] refl
    where
      found : List Task
      found = (taken_from threads (m from).queue).found

  -- entries that move nothing
  same_core : (b : Bool) (x : ModelCore) → x ≡ cond b x x
  same_core true x = refl
  same_core false x = refl

  pub unmoved_round : (number c : ℕ) → m c ≡ moved p plan round (entry.Round number) m c
  unfolding touches effect
  unmoved_round number c = same_core (touches c (entry.Round number)) (m c)

  pub unmoved_fail : (by from : ℕ) (reads : List ℕ) (c : ℕ) → m c ≡ moved p plan round (entry.Fail by from reads) m c
  unfolding touches effect
  unmoved_fail by from reads c = same_core (touches c (entry.Fail by from reads)) (m c)

  pub unmoved_pass : (by : ℕ) (reads : List ℕ) (c : ℕ) → m c ≡ moved p plan round (entry.Pass by reads) m c
  unfolding touches effect
  unmoved_pass by reads c = same_core (touches c (entry.Pass by reads)) (m c)

  -- a blocked thread that wakes
  pub moved_wake : (thread by at : ℕ) (reads : List ℕ) (b : Blocked) → blocked_of thread (m by) ≡ Some b → (c : ℕ)
      → updated (updated m at (admitted p false b.task (m at))) by (released thread (updated m at (admitted p false b.task (m at)) by)) c
      ≡ moved p plan round (entry.Wake thread by at reads) m c
  unfolding touches effect
  moved_wake thread by at reads b is c =
      let named : b.task.id ≡ thread = let test = find-passes (is_blocked_task thread) (m by).blocked b is in grind (arith, nat_tests) in
      put_then_take m at by (admitted p false b.task) (released thread) (λ same. released-admitted p false b.task thread b (m at) (subst (λ k. blocked_of thread (m k) ≡ Some b) (sym same) is)) c
      ∙ (ap (λ id. let left : ModelCore = cond (by == c) (released id (m c)) (m c) in cond (at == c) (admitted p false b.task left) left) (sym named)
      ∙ (sym (untouched_right (at == c) (by == c) (admitted p false b.task) (released b.task.id) (m c))
      ∙ ap (λ o. cond ((by == c) || (at == c)) (woken p by at c o (m c)) (m c)) (sym is)))

  -- the same, by its task
  pub moved_wake_task : (thread by at : ℕ) (reads : List ℕ) (b : Blocked) (t : Task) → blocked_of thread (m by) ≡ Some b → b.task ≡ t → (c : ℕ)
      → updated (updated m at (admitted p false t (m at))) by (released thread (updated m at (admitted p false t (m at)) by)) c
      ≡ moved p plan round (entry.Wake thread by at reads) m c
  moved_wake_task thread by at reads b t is same c =
      subst (λ (x : Task). updated (updated m at (admitted p false x (m at))) by (released thread (updated m at (admitted p false x (m at)) by)) c
      ≡ moved p plan round (entry.Wake thread by at reads) m c) same (moved_wake thread by at reads b is c)

  pub moved_no_wake : (thread by at : ℕ) (reads : List ℕ) → blocked_of thread (m by) ≡ None → (c : ℕ) → m c ≡ moved p plan round (entry.Wake thread by at reads) m c
  unfolding touches effect
  moved_no_wake thread by at reads none c =
      unchanged ((by == c) || (at == c)) ∙ ap (λ o. cond ((by == c) || (at == c)) (woken p by at c o (m c)) (m c)) (sym none)
    where
      unchanged : (b : Bool) → m c ≡ cond b (m c) (m c)
      unchanged true = refl
      unchanged false = refl

  -- a change of one core alone
  one_change : (a : ℕ) (f : ModelCore → ModelCore) (c : ℕ) → updated m a (f (m a)) c ≡ cond (a == c) (f (m c)) (m c)
  one_change a f c = elim (eqb a c) as (λ x. eqb a c ≡ x → cond x (f (m a)) (m c) ≡ cond x (f (m c)) (m c)) [
    | true ↦ λ here. let own : a ≡ c = grind (arith, nat_tests) in ap (λ k. f (m k)) own
    | false ↦ λ none. refl
  ] refl

  pub moved_enter : (thread by at : ℕ) (reads : List ℕ) (found : Option Planned) → planned_of plan thread ≡ found → (c : ℕ)
      → updated m at (entered p found (m at)) c ≡ moved p plan round (entry.Enter thread by at reads) m c
  unfolding touches effect
  moved_enter thread by at reads found is c =
      one_change at (entered p found) c ∙ ap (λ o. cond (at == c) (entered p o (m c)) (m c)) (sym is)

  -- a thread that the plan doesn't have
  pub moved_no_enter : (thread by at : ℕ) (reads : List ℕ) → planned_of plan thread ≡ None → (c : ℕ) → m c ≡ moved p plan round (entry.Enter thread by at reads) m c
  unfolding touches effect
  moved_no_enter thread by at reads none c =
      unchanged (at == c) ∙ ap (λ o. cond (at == c) (entered p o (m c)) (m c)) (sym none)
    where
      unchanged : (b : Bool) → m c ≡ cond b (m c) (m c)
      unchanged true = refl
      unchanged false = refl

  pub moved_work : (by : ℕ) (did : Did) (c : ℕ) → updated m by (core_after_work p plan round (m by)) c ≡ moved p plan round (entry.Work by did) m c
  unfolding touches effect
  moved_work by did c = one_change by (core_after_work p plan round) c

-- the blocked thread behind its task
pub blocked_missing : (found : Option Blocked) → option_map (λ (b : Blocked). b.task) found ≡ None → found ≡ None
blocked_missing None e = refl
blocked_missing (Some b) e = absurd (cc)

pub blocked_found : (found : Option Blocked) (t : Task) → option_map (λ (b : Blocked). b.task) found ≡ Some t → (b : Blocked) × (found ≡ Some b) × (b.task ≡ t)
blocked_found None t e = absurd (cc)
blocked_found (Some b) t e = let same : b.task ≡ t = cc in (b, refl, same)

pub blocked_task_fits : (p : Meaning) (core : ModelCore) → All (λ (b : Blocked). IsTask p b.task) core.blocked → (id : ℕ) (t : Task)
    → option_map (λ (b : Blocked). b.task) (blocked_of id core) ≡ Some t → IsTask p t
blocked_task_fits p core each id t is =
    let found = blocked_found (blocked_of id core) t is in
    let fits = find-All (is_blocked_task id) (λ (b : Blocked). IsTask p b.task) core.blocked each in
    let here = subst (λ (o : Option Blocked). IfSome o (λ b. IsTask p b.task)) found.1 fits in
    subst (IsTask p) found.2 here

-- What a wake and a steal make of the cores: a thread leaves one core and comes to another, which may be the same.
use Rattle.std.proofs.Common.{◌≡◌, ◌≢◌, ℕ, eqb, Bool, cond, true, false, ◌||◌, List, [], ◌∷◌, Some, refl, sym, ap, ◌∙◌, arith}
use Rattle.std.proofs.lemmas.Bool.Decides.{nat_tests}
use Rattle.std.proofs.lemmas.List.{append-nil}
use Rattle.sched_base.specs.declared.task.Task.{Task}
use Rattle.policy_tree.specs.Meaning.{Meaning}
use Rattle.round_model.specs.declared.entry.Entry.TheVariants as entry
use Rattle.round_model.specs.declared.plan.Plan.{Plan}
use Rattle.round_model.specs.declared.state.Blocked.{Blocked}
use Rattle.round_model.specs.declared.state.ModelCore.{ModelCore}
use Rattle.round_model.specs.After.{effect, moved, woken}
use Rattle.round_model.specs.Updates.{updated}
use Rattle.round_model.specs.Cores.{Cores}
use Rattle.round_model.specs.Entries.{touches}
use Rattle.round_model.specs.Attempts.{steal_or_fail}
use Rattle.round_model.specs.Moves.{admitted, blocked_of, handed_all, is_blocked_task, received_all, released}
use Rattle.round_model.proofs.Finding.{find-passes}
use Rattle.round_model.proofs.Moved.{moved_steal, unmoved_fail}
use Rattle.core_moves.specs.Code.Steals.{taken_over}

-- a change of one core and then of another
two_changes : (m : Cores) (a b : ℕ) (f g : ModelCore → ModelCore) (c : ℕ)
    → updated (updated m a (f (m a))) b (g (updated m a (f (m a)) b)) c ≡ (let left : ModelCore = cond (eqb a c) (f (m c)) (m c) in cond (eqb b c) (g left) left)
two_changes m a b f g c =
    elim (eqb b c) as (λ y. eqb b c ≡ y → cond y (g (cond (eqb a b) (f (m a)) (m b))) (cond (eqb a c) (f (m a)) (m c)) ≡ cond y (g (cond (eqb a c) (f (m c)) (m c))) (cond (eqb a c) (f (m c)) (m c))) [
      | true ↦ λ e. let same : b ≡ c = grind (arith, nat_tests) in ap (λ k. g (cond (eqb a k) (f (m a)) (m k))) same ∙ ap g first
      | false ↦ λ e. first
    ] refl
  where
    first : cond (eqb a c) (f (m a)) (m c) ≡ cond (eqb a c) (f (m c)) (m c)
    first = elim (eqb a c) as (λ x. eqb a c ≡ x → cond x (f (m a)) (m c) ≡ cond x (f (m c)) (m c)) [
      | true ↦ λ e. let same : a ≡ c = grind (arith, nat_tests) in ap (λ k. f (m k)) same
      | false ↦ λ e. refl
    ] refl

-- what neither change concerns stays
where_first : (x y : Bool) (f g : ModelCore → ModelCore) (core : ModelCore)
    → (let left : ModelCore = cond x (f core) core in cond y (g left) left) ≡ cond (x || y) (let left : ModelCore = cond x (f core) core in cond y (g left) left) core
where_first true y f g core = refl
where_first false true f g core = refl
where_first false false f g core = refl

where_second : (x y : Bool) (f g : ModelCore → ModelCore) (core : ModelCore)
    → (let left : ModelCore = cond x (f core) core in cond y (g left) left) ≡ cond (y || x) (let left : ModelCore = cond x (f core) core in cond y (g left) left) core
where_second x true f g core = refl
where_second true false f g core = refl
where_second false false f g core = refl

-- where none comes and none leaves, both stay
none_come : (core : ModelCore) → received_all [] core ≡ core
unfolding received_all
none_come core = ap (λ (queue : List Task). let come : ModelCore = record core { queue = queue } in come) (append-nil core.queue)

none_leave : (core : ModelCore) → handed_all [] core ≡ core
unfolding handed_all
none_leave core = refl

same_once : (n : Cores) (a : ℕ) (x : ModelCore) → x ≡ n a → (c : ℕ) → updated n a x c ≡ n c
same_once n a x is c = elim (eqb a c) as (λ b. eqb a c ≡ b → cond b x (n c) ≡ n c) [
  | true ↦ λ here. let same : a ≡ c = grind (arith, nat_tests) in is ∙ ap n same
  | false ↦ λ elsewhere. refl
] refl

same_twice : (m : Cores) (a b : ℕ) (x y : ModelCore) → x ≡ m a → y ≡ m b → (c : ℕ) → updated (updated m a x) b y c ≡ m c
same_twice m a b x y first second c = same_once (updated m a x) b y (second ∙ sym (same_once m a x first b)) c ∙ same_once m a x first c

module _ (p : Meaning) (plan : Plan) (round : ℕ) (m : Cores) where
  -- a thread wakes
  pub wakes : (thread by at : ℕ) (reads : List ℕ) (b : Blocked) (t : Task) → blocked_of thread (m by) ≡ Some b → b.task ≡ t → (c : ℕ)
      → updated (updated m by (released thread (m by))) at (admitted p false t (updated m by (released thread (m by)) at)) c
      ≡ moved p plan round (entry.Wake thread by at reads) m c
  unfolding touches effect
  wakes thread by at reads b t is same c =
      let named : b.task.id ≡ thread = let test = find-passes (is_blocked_task thread) (m by).blocked b is in grind (arith, nat_tests) in
      two_changes m by at (released thread) (admitted p false t) c
      ∙ (where_first (eqb by c) (eqb at c) (released thread) (admitted p false t) (m c)
      ∙ (ap (λ (x : Task). let left : ModelCore = cond (eqb by c) (released thread (m c)) (m c) in cond (eqb by c || eqb at c) (cond (eqb at c) (admitted p false x left) left) (m c)) (sym same)
      ∙ (ap (λ id. let left : ModelCore = cond (eqb by c) (released id (m c)) (m c) in cond (eqb by c || eqb at c) (cond (eqb at c) (admitted p false b.task left) left) (m c)) (sym named)
      ∙ ap (λ o. cond (eqb by c || eqb at c) (woken p by at c o (m c)) (m c)) (sym is))))

  -- threads go over, or none does
  pub attempts : (by from : ℕ) (threads reads : List ℕ) → by ≢ from → (c : ℕ) → taken_over m by from threads c ≡ moved p plan round (steal_or_fail by from reads threads) m c
  attempts by from [] reads apart c = same_twice m by from (received_all [] (m by)) (handed_all [] (m from)) (none_come (m by)) (none_leave (m from)) c ∙ unmoved_fail p plan round m by from reads c
  attempts by from (id ∷ ids) reads apart c = moved_steal p plan round m by from (id ∷ ids) reads apart c

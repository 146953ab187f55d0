-- The order of items: by a test that ranks them, and where it doesn't tell two apart by their numbers.
use Rattle.std.proofs.Common.{◌≡◌, ℕ, ◌≤◌, List, ◌⊎◌, inl, inr, ⊎_elim, Bool, true, false, cond, not, refl, arith}
use Rattle.std.specs.Cmp.{IsStrictWeakOrder}
use Rattle.std.specs.Bool.{nat_lt}
use Rattle.std.proofs.lemmas.Bool.{le-ltb, ltb-false, ltb-true}
use Rattle.policy_tree.specs.Meaning.{KeyTree}
use Rattle.policy_eval.specs.Sights.{thread_values}
use Rattle.policy_eval.proofs.Best.{precedes-asymmetric, precedes-negative}
use Rattle.run_queue.specs.Tasks.{before}
use Rattle.run_queue.specs.Code.Ahead.{ahead, is_sooner, task_at}
use Rattle.run_queue.specs.Code.Lines.{Cell}

-- by the test of one against the other, that of the other against the one, and whether the one has the lesser number
sooner_cases : (forth back less : Bool) → cond forth true (cond less (not back) false) ≡ true → (forth ≡ true) ⊎ ((less ≡ true) × (back ≡ false))
sooner_cases true back less is = inl refl
sooner_cases false true true is = absurd (cc)
sooner_cases false false true is = inr (refl, refl)
sooner_cases false back false is = absurd (cc)

later_cases : (forth back less : Bool) → cond forth true (cond less (not back) false) ≡ false → (forth ≡ false) × ((back ≡ true) ⊎ (less ≡ false))
later_cases true back less is = absurd (cc)
later_cases false true less is = (refl, inl refl)
later_cases false false true is = absurd (cc)
later_cases false false false is = (refl, inr refl)

later_where : (forth back less : Bool) → forth ≡ false → (back ≡ true) ⊎ (less ≡ false) → cond forth true (cond less (not back) false) ≡ false
later_where true back less fails how = absurd (cc)
later_where false back false fails how = refl
later_where false true true fails how = refl
later_where false false true fails how = ⊎_elim (λ (h : false ≡ true). absurd (cc)) (λ (h : true ≡ false). absurd (cc)) how

module _ {X : Type 0} (before : X → X → Bool) (o : IsStrictWeakOrder before) where
  pub not_sooner : (x y : X) (m n : ℕ) → is_sooner before x m y n ≡ false → (before x y ≡ false) × ((before y x ≡ true) ⊎ (n ≤ m))
  not_sooner x y m n is =
      let cases = later_cases (before x y) (before y x) (nat_lt m n) is in
      (cases.0, ⊎_elim (λ (h : before y x ≡ true). inl h) (λ (h : nat_lt m n ≡ false). inr (ltb-false m n h)) cases.1)

  sooner_one_way : (x y : X) (m n : ℕ) → is_sooner before x m y n ≡ true → is_sooner before y n x m ≡ false
  sooner_one_way x y m n is =
      ⊎_elim
      (λ (h : before x y ≡ true). later_where (before y x) (before x y) (nat_lt n m) (o.one_way x y h) (inl h))
      (λ (h : (nat_lt m n ≡ true) × (before y x ≡ false)). later_where (before y x) (before x y) (nat_lt n m) h.1
      (let less = ltb-true m n h.0 in inr (le-ltb n m (omega arith))))
      (sooner_cases (before x y) (before y x) (nat_lt m n) is)

  sooner_chain : (x y z : X) (l m n : ℕ) → is_sooner before x l y m ≡ false → is_sooner before y m z n ≡ false → is_sooner before x l z n ≡ false
  sooner_chain x y z l m n first second =
      let a = not_sooner x y l m first in
      let b = not_sooner y z m n second in
      later_where (before x z) (before z x) (nat_lt l n) (o.chain x y z a.0 b.0) (how (before z x) refl a b)
    where
      how : (back : Bool) → before z x ≡ back → (before x y ≡ false) × ((before y x ≡ true) ⊎ (m ≤ l)) → (before y z ≡ false) × ((before z y ≡ true) ⊎ (n ≤ m))
          → (back ≡ true) ⊎ (nat_lt l n ≡ false)
      how true is a b = inl refl
      how false is a b =
          ⊎_elim
          (λ (h : before y x ≡ true). let none = o.chain y z x b.0 is in absurd (cc))
          (λ (h : m ≤ l).
          ⊎_elim
          (λ (k : before z y ≡ true). let none = o.chain z x y is a.0 in absurd (cc))
          (λ (k : n ≤ m). inr (le-ltb l n (omega arith)))
          b.1)
          a.1

-- tasks by the keys
pub tasks_order : (keys : List KeyTree) → IsStrictWeakOrder (before keys)
tasks_order keys = record {
  one_way = λ t u. precedes-asymmetric keys (thread_values t.weight t.attrs) (thread_values u.weight u.attrs);
  chain = λ t u v. precedes-negative keys (thread_values t.weight t.attrs) (thread_values u.weight u.attrs) (thread_values v.weight v.attrs);
}

-- items of a line
pub items_order : (keys : List KeyTree) (cells : List Cell) → IsStrictWeakOrder (ahead keys cells)
items_order keys cells = record {
  one_way = λ a b. sooner_one_way (before keys) (tasks_order keys) (task_at cells a.node) (task_at cells b.node) a.arrival b.arrival;
  chain = λ a b c. sooner_chain (before keys) (tasks_order keys) (task_at cells a.node) (task_at cells b.node) (task_at cells c.node) a.arrival b.arrival c.arrival;
}

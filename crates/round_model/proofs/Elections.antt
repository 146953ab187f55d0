-- The best of the tasks from a place on, with the place where it stands.
use Rattle.std.proofs.Common.{◌≡◌, ℕ, zero, suc, ◌+◌, ◌<◌, Bool, true, false, cond, List, [], ◌∷◌, length, drop, remove, slice_get, MatchOption, Option, Some, None, option_map, refl, sym, ap, ◌∙◌, arith}
use Rattle.sched_base.specs.declared.task.Task.{Task}
use Rattle.policy_tree.specs.Meaning.{KeyTree}
use Rattle.policy_eval.specs.Orders.{best_and_rest, best_of, better_and_rest, better_of}
use Rattle.round_model.specs.UnitSteps.{IsBestPlace}
use Rattle.round_model.specs.Work.{before}

-- of the items from `at` on the best stands in the place b of the list
pub record BestFrom {X : Type 0} (before : X → X → Bool) (xs : List X) (at b : ℕ) : Type 0 where
  pub offset : ℕ
  pub place : at + offset ≡ b
  pub inside : b < length xs
  pub best : best_of before (drop at xs) ≡ slice_get xs b
  pub rest : best_and_rest before (drop at xs) ≡ option_map (λ x. (x, remove (drop at xs) offset)) (slice_get xs b)

-- the items from a place on begin with the one in it
pub drop_here : {X : Type 0} (xs : List X) (at : ℕ) (x : X) → slice_get xs at ≡ Some x → drop at xs ≡ x ∷ drop (suc at) xs
drop_here [] at x is = absurd (cc)
drop_here (y ∷ ys) zero x is = let same : y ≡ x = cc in ap (λ (z : _). z ∷ ys) same
drop_here (y ∷ ys) (suc at) x is = drop_here ys at x is

-- an item stands in each place of the list
pub item_at : {X : Type 0} (xs : List X) (at : ℕ) → at < length xs → (x : X) × (slice_get xs at ≡ Some x)
item_at [] at inside = absurd (omega arith)
item_at (x ∷ xs) zero inside = (x, refl)
item_at (x ∷ xs) (suc at) inside = item_at xs at (omega arith)

module _ {X : Type 0} (before : X → X → Bool) (xs : List X) where
  -- the item behind stays the best, since it comes strictly before
  pub BestFrom-keep : (at b : ℕ) (x y : X) → slice_get xs at ≡ Some x → slice_get xs b ≡ Some y → before y x ≡ true → BestFrom before xs (suc at) b → BestFrom before xs at b
  BestFrom-keep at b x y here there first from =
      let e = drop_here xs at x here in
      let best = from.best ∙ there in
      let rest = from.rest ∙ ap (option_map (λ z. (z, remove (drop (suc at) xs) from.offset))) there in
      record {
        offset = suc from.offset;
        place = let place = from.place in omega arith;
        inside = from.inside;
        best = ap (best_of before) e ∙ (ap (λ o. Some (better_of before x o)) best ∙ (ap (λ c. Some (cond c y x)) first ∙ sym there));
        rest = ap (best_and_rest before) e
            ∙ (ap (λ o. Some (better_and_rest before x (drop (suc at) xs) o)) rest
            ∙ (ap (λ c. Some (cond c (y, x ∷ remove (drop (suc at) xs) from.offset) (x, drop (suc at) xs))) first
            ∙ (ap (λ (items : List X). Some (y, remove items (suc from.offset))) (sym e)
            ∙ sym (ap (option_map (λ z. (z, remove (drop at xs) (suc from.offset)))) there))));
      }

  -- the item itself is the best
  BestFrom-here : (at : ℕ) (x : X) → slice_get xs at ≡ Some x → better_of before x (best_of before (drop (suc at) xs)) ≡ x
      → better_and_rest before x (drop (suc at) xs) (best_and_rest before (drop (suc at) xs)) ≡ (x, drop (suc at) xs) → at < length xs → BestFrom before xs at at
  BestFrom-here at x here better rest inside =
      let e = drop_here xs at x here in
      record {
        offset = 0;
        place = omega arith;
        inside = inside;
        best = ap (best_of before) e ∙ (ap (λ z. Some z) better ∙ sym here);
        rest = ap (best_and_rest before) e
            ∙ (ap (λ z. Some z) rest
            ∙ (ap (λ (items : List X). Some (x, remove items 0)) (sym e) ∙ sym (ap (option_map (λ z. (z, remove (drop at xs) 0))) here)));
      }

  -- the item comes at least as early as the best behind it
  pub BestFrom-take : (at b : ℕ) (x y : X) → slice_get xs at ≡ Some x → slice_get xs b ≡ Some y → before y x ≡ false → at < length xs → BestFrom before xs (suc at) b → BestFrom before xs at at
  BestFrom-take at b x y here there later inside from =
      let best = from.best ∙ there in
      let rest = from.rest ∙ ap (option_map (λ z. (z, remove (drop (suc at) xs) from.offset))) there in
      BestFrom-here at x here
      (ap (better_of before x) best ∙ ap (λ c. cond c y x) later)
      (ap (better_and_rest before x (drop (suc at) xs)) rest ∙ ap (λ c. cond c (y, x ∷ remove (drop (suc at) xs) from.offset) (x, drop (suc at) xs)) later)
      inside

  -- no item stands behind
  pub BestFrom-last : (at : ℕ) (x : X) → slice_get xs at ≡ Some x → at < length xs → drop (suc at) xs ≡ [] → BestFrom before xs at at
  BestFrom-last at x here inside none =
      BestFrom-here at x here (ap (λ (items : List X). better_of before x (best_of before items)) none)
      (ap (λ (items : List X). better_and_rest before x items (best_and_rest before items)) none ∙ ap (λ (items : List X). (x, items)) (sym none)) inside

-- the best of all tasks
pub best_of_all : (keys : List KeyTree) (tasks : List Task) (best : Option ℕ) → MatchOption best (drop 0 tasks ≡ []) (BestFrom (before keys) tasks 0)
    → MatchOption best (tasks ≡ []) (IsBestPlace keys tasks)
best_of_all keys tasks None none = none
best_of_all keys tasks (Some b) from = record {
  inside = from.inside;
  best = from.best;
  rest = from.rest ∙ ap (λ k. option_map (λ t. (t, remove tasks k)) (slice_get tasks b)) (let place = from.place in omega arith);
}

-- The best of the first items of a list, and of all of them.
use Rattle.std.proofs.Common.{◌≡◌, ℕ, zero, suc, ◌<◌, Bool, true, false, cond, List, [], ◌∷◌, length, remove, slice_get, Option, Some, None, option_map, ⊎_elim, refl, sym, ap, subst, ◌∙◌, arith}
use Rattle.std.proofs.lemmas.Bool.{cases_eq}
use Rattle.std.proofs.lemmas.Option.{same_Some, slice_get_within}
use Rattle.policy_tree.specs.Meaning.{KeyTree}
use Rattle.sched_base.specs.declared.task.Task.{Task}
use Rattle.policy_eval.specs.Orders.{best_and_rest, better_and_rest}
use Rattle.policy_eval.specs.Sights.{thread_values}
use Rattle.policy_eval.proofs.Best.{best_and_rest-best, precedes-asymmetric, precedes-irreflexive, precedes-negative}
use Rattle.run_queue.specs.declared.line.Spot.{Spot}
use Rattle.run_queue.specs.Code.Lines.{Cell, spot_at, tasks_of}
use Rattle.run_queue.specs.Code.Scans.{IsBestSpot}
use Rattle.run_queue.specs.Tasks.{before}

-- among the first n items none comes strictly before x, which stands in place b, and x does before each earlier one
pub record IsBestOf {X : Type 0} (before : X → X → Bool) (xs : List X) (n b : ℕ) (x : X) : Type 0 where
  pub inside : b < n
  pub is : slice_get xs b ≡ Some x
  pub none_before : (k : ℕ) (y : X) → k < n → slice_get xs k ≡ Some y → before y x ≡ false
  pub earliest : (k : ℕ) (y : X) → k < b → slice_get xs k ≡ Some y → before x y ≡ true

-- what holds where a test fails can't, so the test passes
passes_unless : (b c : Bool) → (b ≡ false → c ≡ false) → c ≡ true → b ≡ true
passes_unless true c back holds = refl
passes_unless false c back holds = let fails = back refl in absurd (cc)

module _ {X : Type 0} (before : X → X → Bool)
    (irreflexive : (x : X) → before x x ≡ false)
    (asymmetric : (x y : X) → before x y ≡ true → before y x ≡ false)
    (negative : (x y z : X) → before x y ≡ false → before y z ≡ false → before x z ≡ false) where
  -- one more item that doesn't come before it
  pub best_keeps : (xs : List X) (n b : ℕ) (x y : X) → IsBestOf before xs n b x → slice_get xs n ≡ Some y → before y x ≡ false → IsBestOf before xs (suc n) b x
  best_keeps xs n b x y best at test = record {
    inside = let l = best.inside in omega arith;
    is = best.is;
    none_before = λ k z less here.
        ⊎_elim
        (λ (end : k ≡ n). let same : y ≡ z = same_Some y z (sym at ∙ (ap (slice_get xs) (sym end) ∙ here)) in subst (λ w. before w x ≡ false) same test)
        (λ (else : k ≡ n → ⊥). best.none_before k z (omega arith) here)
        (cases_eq k n);
    earliest = best.earliest;
  }

  -- one more item that comes before it
  pub best_yields : (xs : List X) (n b : ℕ) (x y : X) → IsBestOf before xs n b x → slice_get xs n ≡ Some y → before y x ≡ true → IsBestOf before xs (suc n) n y
  best_yields xs n b x y best at test = record {
    inside = omega arith;
    is = at;
    none_before = λ k z less here.
        ⊎_elim
        (λ (end : k ≡ n). let same : y ≡ z = same_Some y z (sym at ∙ (ap (slice_get xs) (sym end) ∙ here)) in subst (λ w. before w y ≡ false) same (irreflexive y))
        (λ (else : k ≡ n → ⊥). negative z x y (best.none_before k z (omega arith) here) (asymmetric y x test))
        (cases_eq k n);
    earliest = λ k z less here. passes_unless (before y z) (before y x) (λ none. negative y z x none (best.none_before k z less here)) test;
  }

  -- the first item alone
  pub best_alone : (x : X) (xs : List X) → IsBestOf before (x ∷ xs) 1 0 x
  best_alone x xs = record {
    inside = omega arith;
    is = refl;
    none_before = λ k y less here. let start : k ≡ 0 = omega arith in
        let same : x ≡ y = same_Some x y (ap (slice_get (x ∷ xs)) (sym start) ∙ here) in subst (λ w. before w x ≡ false) same (irreflexive x);
    earliest = λ k y less here. absurd (omega arith);
  }

module _ {X : Type 0} (before : X → X → Bool) where
  -- what holds of each item holds of the best
  pub best_among : (P : X → Type 0) (xs : List X) → ((k : ℕ) (y : X) → slice_get xs k ≡ Some y → P y)
      → (best : X × List X) → best_and_rest before xs ≡ Some best → P best.0
  best_among P [] each best is = absurd (cc)
  best_among P (x ∷ xs) each best is = among (best_and_rest before xs) (λ later here. best_among P xs (λ k. each (suc k)) later here) is
    where
      chosen : (b : Bool) (later : X × List X) → P later.0 → Some (cond b (later.0, x ∷ later.1) (x, xs)) ≡ Some best → P best.0
      chosen true later holds e = subst (λ (pair : X × List X). P pair.0) (same_Some (later.0, x ∷ later.1) best e) holds
      chosen false later holds e = subst (λ (pair : X × List X). P pair.0) (same_Some (x, xs) best e) (each 0 x refl)

      among : (o : Option (X × List X)) → ((later : X × List X) → o ≡ Some later → P later.0) → Some (better_and_rest before x xs o) ≡ Some best → P best.0
      among None holds e = subst (λ (pair : X × List X). P pair.0) (same_Some (x, xs) best e) (each 0 x refl)
      among (Some later) holds e = chosen (before later.0 x) later (holds later refl) e

  -- the best of all items, and the others
  pub best_whole : (xs : List X) (b : ℕ) (x : X) → IsBestOf before xs (length xs) b x → best_and_rest before xs ≡ Some (x, remove xs b)
  best_whole [] b x best = let none = best.is in absurd (cc)
  best_whole (y ∷ ys) zero x best =
      let same : y ≡ x = same_Some y x best.is in
      front (best_and_rest before ys) (λ later here. best_among (λ z. before z y ≡ false) ys
      (λ k z at. subst (λ w. before z w ≡ false) (sym same) (best.none_before (suc k) z (let l = slice_get_within ys k z at in omega arith) at)) later here)
      ∙ ap (λ w. Some (w, ys)) same
    where
      front : (o : Option (X × List X)) → ((later : X × List X) → o ≡ Some later → before later.0 y ≡ false) → Some (better_and_rest before y ys o) ≡ Some (y, ys)
      front None none = refl
      front (Some later) none = ap (λ b. Some (cond b (later.0, y ∷ later.1) (y, ys))) (none later refl)
  best_whole (y ∷ ys) (suc b) x best =
      let behind : IsBestOf before ys (length ys) b x = record {
        inside = let l = best.inside in omega arith;
        is = best.is;
        none_before = λ k z less here. best.none_before (suc k) z (omega arith) here;
        earliest = λ k z less here. best.earliest (suc k) z (omega arith) here;
      } in
      ap (λ (o : Option (X × List X)). Some (better_and_rest before y ys o)) (best_whole ys b x behind)
      ∙ ap (λ c. Some (cond c (x, y ∷ remove ys b) (y, ys))) (best.earliest 0 y (omega arith) refl)

-- the best of the first n tasks stands at the spot
pub record BestTo (keys : List KeyTree) (cells : List Cell) (n : ℕ) (spot : Spot) : Type 0 where
  pub place : ℕ
  pub task : Task
  pub there : spot_at cells place ≡ Some spot
  pub best : IsBestOf (before keys) (tasks_of cells) n place task

module _ (keys : List KeyTree) (cells : List Cell) where
  irreflexive : (t : Task) → before keys t t ≡ false
  irreflexive t = precedes-irreflexive keys (thread_values t.weight t.attrs)

  asymmetric : (t u : Task) → before keys t u ≡ true → before keys u t ≡ false
  asymmetric t u = precedes-asymmetric keys (thread_values t.weight t.attrs) (thread_values u.weight u.attrs)

  negative : (t u v : Task) → before keys t u ≡ false → before keys u v ≡ false → before keys t v ≡ false
  negative t u v = precedes-negative keys (thread_values t.weight t.attrs) (thread_values u.weight u.attrs) (thread_values v.weight v.attrs)

  pub best_step : (n : ℕ) (best later chosen : Spot) (u : Task) → (to : BestTo keys cells n best) → spot_at cells n ≡ Some later → slice_get (tasks_of cells) n ≡ Some u
      → chosen ≡ cond (before keys u to.task) later best → BestTo keys cells (suc n) chosen
  best_step n best later chosen u to there at is = step (before keys u to.task) refl is
    where
      step : (b : Bool) → before keys u to.task ≡ b → chosen ≡ cond b later best → BestTo keys cells (suc n) chosen
      step true test e = record {
        place = n;
        task = u;
        there = there ∙ ap (λ (s : Spot). Some s) (sym e);
        best = best_yields (before keys) irreflexive asymmetric negative (tasks_of cells) n to.place to.task u to.best at test;
      }
      step false test e = record {
        place = to.place;
        task = to.task;
        there = to.there ∙ ap (λ (s : Spot). Some s) (sym e);
        best = best_keeps (before keys) irreflexive asymmetric negative (tasks_of cells) n to.place to.task u to.best at test;
      }

  pub best_of_all : (n : ℕ) (spot : Spot) → n ≡ length (tasks_of cells) → BestTo keys cells n spot → IsBestSpot keys cells spot
  best_of_all n spot end to =
      let whole = best_whole (before keys) (tasks_of cells) to.place to.task (subst (λ k. IsBestOf (before keys) (tasks_of cells) k to.place to.task) end to.best) in
      record {
        place = to.place;
        there = to.there;
        best = sym (best_and_rest-best (before keys) (tasks_of cells)) ∙ (ap (option_map (λ (best : Task × List Task). best.0)) whole ∙ sym to.best.is);
        rest = whole ∙ sym (ap (option_map (λ t. (t, remove (tasks_of cells) to.place))) to.best.is);
      }

  -- the first task alone
  pub best_first : (spot : Spot) → spot_at cells 0 ≡ Some spot → BestTo keys cells 1 spot
  best_first spot is = first_of cells is
    where
      first_of : (all : List Cell) → spot_at all 0 ≡ Some spot → BestTo keys all 1 spot
      first_of [] is = absurd (cc)
      first_of (cell ∷ rest) is = record {
        place = 0;
        task = cell.task;
        there = is;
        best = best_alone (before keys) irreflexive asymmetric negative cell.task (tasks_of rest);
      }

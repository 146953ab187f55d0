-- A thread is hungry between two positions of a history exactly where it runs in none of the entries between.
use Rattle.std.proofs.Common.{◌≡◌, ℕ, zero, suc, ◌+◌, ◌-◌, ◌<◌, ◌≤◌, ◌==◌, ◌&&◌, ◌||◌, Bool, true, false, true≢false, not, cond, List, [], ◌∷◌, Option, Some, None, length, take, drop, refl, sym, ap, subst, ◌∙◌, arith}
use Rattle.std.specs.Prelude.{find, slice_get}
use Rattle.std.specs.List.{list_any}
use Rattle.std.proofs.lemmas.Bool.Decides.{nat_tests}
use Rattle.std.proofs.lemmas.List.Folds.{list_any_at}
use mathlib.Core.Option.{some, some-injective, some-ne-none}
use lib.ListN.{get_elem?}
use Rattle.sched_base.specs.declared.task.Task.{Task}
use Rattle.round_model.specs.declared.entry.Did.{Did}
use Rattle.round_model.specs.declared.entry.Entry.{Entry}
use Rattle.round_model.specs.declared.entry.Entry.TheVariants as entry
use Rattle.waiting_laws.specs.Waiting.{RunsIn, thread_of}
use Rattle.round_laws.proofs.RoundNumbers.{entry_inside}
use Rattle.starving_plays.specs.Starving.{is_hungry, is_that_thread, runs}
use Rattle.starving_plays.proofs.Returns.{elem_at}

-- what was found stands in a place
pub found_at : {X : Type 0} (test : X → Bool) (xs : List X) (x : X) → find test xs ≡ Some x → (k : ℕ) × (slice_get xs k ≡ Some x) × (test x ≡ true)
found_at test [] x is = absurd (let bad = is in cc)
found_at test (y ∷ ys) x is = by (test y) refl (found_at test ys x) is
  where
    by : (b : Bool) → test y ≡ b → (find test ys ≡ Some x → (k : ℕ) × (slice_get ys k ≡ Some x) × (test x ≡ true)) → cond b (Some y) (find test ys) ≡ Some x
        → (k : ℕ) × (slice_get (y ∷ ys) k ≡ Some x) × (test x ≡ true)
    by true passes others here = let same : y ≡ x = cc in (0, ap Some same, subst (λ z. test z ≡ true) same passes)
    by false fails others later = let found = others later in (suc found.0, found.1, found.2)

-- where none was found, the test fails of all
pub none_at : {X : Type 0} (test : X → Bool) (xs : List X) → find test xs ≡ None → (k : ℕ) (x : X) → slice_get xs k ≡ Some x → test x ≡ false
none_at test [] none k x is = absurd (let bad = is in cc)
none_at test (y ∷ ys) none k x is = by (test y) refl (λ rest j. none_at test ys rest j x) none k is
  where
    by : (b : Bool) → test y ≡ b → (find test ys ≡ None → (j : ℕ) → slice_get ys j ≡ Some x → test x ≡ false) → cond b (Some y) (find test ys) ≡ None → (k : ℕ)
        → slice_get (y ∷ ys) k ≡ Some x → test x ≡ false
    by true passes others found k is = absurd (let bad = found in cc)
    by false fails others later zero is = let same : y ≡ x = cc in subst (λ z. test z ≡ false) same fails
    by false fails others later (suc k) is = others later k is

-- some item passes the test
any_gives : {X : Type 0} (test : X → Bool) (xs : List X) → list_any test xs ≡ true → (k : ℕ) × (x : X) × (get_elem? xs k ≡ some x) × (test x ≡ true)
any_gives test [] passes = absurd (let bad = passes in cc)
any_gives test (x ∷ xs) passes = by (test x) refl (any_gives test xs) passes
  where
    by : (b : Bool) → test x ≡ b → (list_any test xs ≡ true → (k : ℕ) × (y : _) × (get_elem? xs k ≡ some y) × (test y ≡ true)) → (b || list_any test xs) ≡ true
        → (k : ℕ) × (y : _) × (get_elem? (x ∷ xs) k ≡ some y) × (test y ≡ true)
    by true is others any = (0, x, refl, is)
    by false is others any = let later = others any in (suc later.0, later.1, later.2, later.3)

any_at : {X : Type 0} (test : X → Bool) (xs : List X) (k : ℕ) (x : X) → get_elem? xs k ≡ some x → k < length xs → test x ≡ true → list_any test xs ≡ true
any_at test xs k x is inside passes =
    list_any_at test xs k x inside (ap test (some-injective _ _ (sym (elem_at xs k x inside) ∙ is)) ∙ passes)

-- an item behind a front
elem_drop : {X : Type 0} (xs : List X) (low k : ℕ) → get_elem? (drop low xs) k ≡ get_elem? xs (low + k)
elem_drop xs zero k = let same : k ≡ 0 + k = omega arith in subst (λ n. get_elem? xs k ≡ get_elem? xs n) same refl
elem_drop [] (suc low) k = refl
elem_drop (x ∷ xs) (suc low) k = let same : suc (low + k) ≡ suc low + k = omega arith in subst (λ n. get_elem? (drop low xs) k ≡ get_elem? (x ∷ xs) n) same (elem_drop xs low k)

-- and within one
elem_take : {X : Type 0} (xs : List X) (n k : ℕ) (x : X) → k < n → get_elem? xs k ≡ some x → get_elem? (take n xs) k ≡ some x
elem_take xs zero k x less is = absurd (omega arith)
elem_take [] (suc n) k x less is = is
elem_take (y ∷ ys) (suc n) zero x less is = is
elem_take (y ∷ ys) (suc n) (suc k) x less is = elem_take ys n k x (omega arith) is

elem_front : {X : Type 0} (xs : List X) (n k : ℕ) (x : X) → get_elem? (take n xs) k ≡ some x → (k < n) × (get_elem? xs k ≡ some x)
elem_front xs zero k x is = absurd (some-ne-none x (sym is))
elem_front [] (suc n) k x is = absurd (some-ne-none x (sym is))
elem_front (y ∷ ys) (suc n) zero x is = (omega arith, is)
elem_front (y ∷ ys) (suc n) (suc k) x is = let later = elem_front ys n k x is in (omega (arith, later.0), later.1)

-- the thread that a unit is of
that_one : (x : ℕ) (o : Option ℕ) → o ≡ Some x → is_that_thread x o ≡ true
that_one x o is = ap (is_that_thread x) is ∙ (grind (arith, nat_tests))

of_that : (x : ℕ) (o : Option ℕ) → is_that_thread x o ≡ true → o ≡ Some x
of_that x None passes = absurd (let bad = passes in cc)
of_that x (Some found) passes = let same : found ≡ x = grind (arith, nat_tests) in ap Some same

-- a unit of the thread on core 0
record IsUnit (x : ℕ) (e : Entry) : Type 0 where
  what : Did
  works : e ≡ entry.Work 0 what
  runs : thread_of what ≡ Some x

unit_of : (x : ℕ) (e : Entry) → runs x e ≡ true → IsUnit x e
unit_of x (entry.Round number) passes = absurd (let bad = passes in cc)
unit_of x (entry.Enter other by at reads) passes = absurd (let bad = passes in cc)
unit_of x (entry.Wake other by at reads) passes = absurd (let bad = passes in cc)
unit_of x (entry.Steal by from threads reads) passes = absurd (let bad = passes in cc)
unit_of x (entry.Fail by from reads) passes = absurd (let bad = passes in cc)
unit_of x (entry.Pass by reads) passes = absurd (let bad = passes in cc)
unit_of x (entry.Work by what) passes = split (by == 0) refl passes
  where
    split : (b : Bool) → (by == 0) ≡ b → (b && is_that_thread x (thread_of what)) ≡ true → IsUnit x (entry.Work by what)
    split true is rest = let here : by ≡ 0 = grind (arith, nat_tests) in record { what = what; works = ap (λ c. entry.Work c what) here; runs = of_that x (thread_of what) rest }
    split false is rest = absurd (let bad = rest in cc)

module _ (h : List Entry) (low at : ℕ) (before : low ≤ at) (t : Task) where
  abbrev between : List Entry
  between = take (at - low) (drop low h)

  not_yes : (b : Bool) → not b ≡ true → b ≡ true → ⊥
  not_yes true not_so so = let bad = not_so in cc
  not_yes false not_so so = let bad = so in cc

  yes_if_not : (b : Bool) → not b ≡ false → b ≡ true
  yes_if_not true not_so = refl
  yes_if_not false not_so = absurd (let bad = not_so in cc)

  -- a hungry thread doesn't run between
  pub not_run : is_hungry between t ≡ true → ¬ RunsIn h t.id 0 low at
  not_run hungry run =
      let low_first = run.not_before in let high_last = run.before in
      let place : low + (run.position - low) ≡ run.position = omega arith in
      let there = elem_take (drop low h) (at - low) (run.position - low) (entry.Work 0 run.what) (omega arith) (elem_drop h low (run.position - low) ∙ (ap (get_elem? h) place ∙ run.works)) in
      not_yes (list_any (runs t.id) between) hungry
      (any_at (runs t.id) between (run.position - low) (entry.Work 0 run.what) there (entry_inside between (run.position - low) (entry.Work 0 run.what) there) (that_one t.id (thread_of run.what) run.runs))

  -- and another one does
  pub must_run : is_hungry between t ≡ false → RunsIn h t.id 0 low at
  must_run fed =
      let any = any_gives (runs t.id) between (yes_if_not (list_any (runs t.id) between) fed) in
      let front = elem_front (drop low h) (at - low) any.0 any.1 any.2 in
      let unit = unit_of t.id any.1 any.3 in
      record {
        position = low + any.0;
        not_before = omega arith;
        before = omega (arith, front.0);
        what = unit.what;
        works = sym (elem_drop h low any.0) ∙ (front.1 ∙ ap some unit.works);
        runs = unit.runs;
      }

-- What the threads of a core come to by their weights, as one is put there, taken from it or becomes current: the
-- thread count is what they come to where each counts for one, the load is the sum of the weights themselves.
use Rattle.std.proofs.Common.{◌≡◌, ℕ, ◌+◌, Bool, true, false, cond, List, [], ◌∷◌, length, find, sum_by, option_to_list, IfSome, Option, Some, None, refl, sym, ap, ap₂, ◌∙◌, arith}
use Rattle.std.proofs.lemmas.List.Sums.{sum_by-append, sum_by-cons, sum_by_push}
use Rattle.sched_base.specs.declared.task.Task.{Task}
use Rattle.policy_tree.specs.declared.typed.Put.TheVariants as put
use Rattle.policy_tree.specs.Meaning.{Meaning}
use Rattle.policy_eval.specs.Orders.{best_and_rest, better_and_rest}
use Rattle.round_model.specs.declared.state.CountAndLoad.{CountAndLoad}
use Rattle.round_model.specs.declared.state.ModelCore.{ModelCore}
use Rattle.round_model.specs.Cores.{seen_of, tasks_of, thread_count}
use Rattle.round_model.specs.Moves.{handed, is_task, queued_of, received, with_task, without_first}
use Rattle.round_model.specs.Work.{before, elected, elected_over, with_current}

-- what a thread counts for by its weight
abbrev pub weighed : (ℕ → ℕ) → Task → ℕ
weighed counts t = counts t.weight

-- what the current and queued threads of a core count for
abbrev pub amount : (ℕ → ℕ) → ModelCore → ℕ
amount counts core = sum_by (weighed counts) (tasks_of core)

sum_of_ones : {X : Type 0} (xs : List X) → sum_by (λ x. 1) xs ≡ length xs
sum_of_ones [] = refl
sum_of_ones (x ∷ xs) = omega (arith, sum_by-cons (λ y. 1) x xs, sum_of_ones xs)

-- the thread count, as each counts for one
pub count_is : (core : ModelCore) → amount (λ w. 1) core ≡ thread_count core
count_is core = sum_of_ones (tasks_of core)

-- where the amounts are the same, so are thread count and load
pub seen_same : (old new : ModelCore) → ((counts : ℕ → ℕ) → amount counts new ≡ amount counts old) → seen_of new ≡ seen_of old
seen_same old new same =
    let seen : ℕ → ℕ → CountAndLoad = λ nr load. record { nr = nr; load = load } in
    ap₂ seen (sym (count_is new) ∙ (same (λ w. 1) ∙ count_is old)) (same (λ w. w))

-- the first item that passes is taken out
pub sum_without : {X : Type 0} (f : X → ℕ) (test : X → Bool) (xs : List X) (y : X) → find test xs ≡ Some y → sum_by f (without_first test xs) + f y ≡ sum_by f xs
sum_without f test [] y found = absurd (cc)
sum_without f test (x ∷ xs) y found =
    let one = sum_by-cons f x xs in
    elim (test x) as (λ b. cond b (Some x) (find test xs) ≡ Some y → sum_by f (cond b xs (x ∷ without_first test xs)) + f y ≡ sum_by f (x ∷ xs)) [
      | true ↦ λ is. let same : x ≡ y = cc in let here : f x ≡ f y = ap f same in omega arith
      | false ↦ λ is. let rest = sum_without f test xs y is in let two = sum_by-cons f x (without_first test xs) in omega arith
    ] found

module _ {X : Type 0} (f : X → ℕ) (comes : X → X → Bool) where
  -- the best of a list and the others come to what the list comes to
  abbrev pub ComesTo : ℕ → X × List X → Type 0
  ComesTo whole parts = f parts.0 + sum_by f parts.1 ≡ whole

  split_with : (x : X) (xs : List X) (found : Option (X × List X)) → IfSome found (ComesTo (sum_by f xs)) → ComesTo (sum_by f (x ∷ xs)) (better_and_rest comes x xs found)
  split_with x xs None rest = sym (sum_by-cons f x xs)
  split_with x xs (Some later) rest =
      elim (comes later.0 x) as (λ b. ComesTo (sum_by f (x ∷ xs)) (cond b (later.0, x ∷ later.1) (x, xs))) [
        | true ↦ omega (arith, rest, sum_by-cons f x xs, sum_by-cons f x later.1)
        | false ↦ sym (sum_by-cons f x xs)
      ]

  pub sum_split : (xs : List X) → IfSome (best_and_rest comes xs) (ComesTo (sum_by f xs))
  sum_split [] = tt
  sum_split (x ∷ xs) = split_with x xs (best_and_rest comes xs) (sum_split xs)

module _ (counts : ℕ → ℕ) where
  -- list by list
  pub amount_is : (core : ModelCore) → amount counts core ≡ sum_by (weighed counts) (option_to_list core.current) + sum_by (weighed counts) core.queue
  amount_is core = sum_by-append (weighed counts) (option_to_list core.current) core.queue

  nobody_counts : (core : ModelCore) → core.current ≡ None → sum_by (weighed counts) (option_to_list core.current) ≡ 0
  nobody_counts core none = ap (λ (o : Option Task). sum_by (weighed counts) (option_to_list o)) none

  -- a thread is put at the end of the queue
  pub amount_queued : (wake : ℕ) (t : Task) (core : ModelCore) → amount counts (with_task put.Queue wake t core) ≡ amount counts core + counts t.weight
  amount_queued wake t core =
      omega (arith, amount_is core, amount_is (with_task put.Queue wake t core), sum_by_push (weighed counts) core.queue t)

  -- a thread becomes current where none is
  pub amount_current : (wake : ℕ) (t : Task) (core : ModelCore) → core.current ≡ None → amount counts (with_task put.Keep wake t core) ≡ amount counts core + counts t.weight
  amount_current wake t core none =
      omega (arith, amount_is core, amount_is (with_task put.Keep wake t core), nobody_counts core none)

  -- the current thread is taken away
  pub amount_taken : (t : Task) (core : ModelCore) → core.current ≡ Some t → let left : ModelCore = record core { current = None } in amount counts left + counts t.weight ≡ amount counts core
  amount_taken t core is =
      let left : ModelCore = record core { current = None } in
      let one : sum_by (weighed counts) (option_to_list core.current) ≡ sum_by (weighed counts) (t ∷ []) = ap (λ (o : Option Task). sum_by (weighed counts) (option_to_list o)) is in
      omega (arith, amount_is core, amount_is left)

  -- a queued thread leaves
  pub amount_handed : (id : ℕ) (t : Task) (core : ModelCore) → queued_of id core ≡ Some t → amount counts (handed id core) + counts t.weight ≡ amount counts core
  unfolding handed
  amount_handed id t core found =
      omega (arith, amount_is core, amount_is (handed id core), sum_without (weighed counts) (is_task id) core.queue t found)

  -- a thread comes to the queue
  pub amount_received : (t : Task) (core : ModelCore) → amount counts (received t core) ≡ amount counts core + counts t.weight
  unfolding received
  amount_received t core = amount_queued 0 t core

  -- a core that elects has what it had
  pub amount_elected : (p : Meaning) (core : ModelCore) → amount counts (elected p core) ≡ amount counts core
  amount_elected p core = by_current core.current refl
    where
      by_best : core.current ≡ None → (best : Option (Task × List Task)) → IfSome best (λ parts. weighed counts parts.0 + sum_by (weighed counts) parts.1 ≡ sum_by (weighed counts) core.queue)
          → amount counts (with_current core best) ≡ amount counts core
      by_best none None parts = refl
      by_best none (Some best) parts = omega (arith, amount_is core, amount_is (with_current core (Some best)), nobody_counts core none, parts)

      by_current : (current : Option Task) → core.current ≡ current → amount counts (elected_over p core current) ≡ amount counts core
      by_current None is = by_best is (best_and_rest (before p.elect) core.queue) (sum_split (weighed counts) (before p.elect) core.queue)
      by_current (Some t) is = refl

-- A queue whose best has the least value: the place of a thread that waits, and the lags of all, once the best is taken out.
use Rattle.std.proofs.Common.{◌≡◌, ℕ, ℤ, zero, suc, ◌+◌, ◌≤◌, true, false, cond, List, [], ◌∷◌, ◌++◌, slice_get, sum_by, IsSomeAnd, Option, Some, None, pos, negsuc, ◌<ℤ◌, ◌≤ℤ◌, refl, ap, subst, arith}
use Rattle.std.proofs.lemmas.Int.{ints}
use Rattle.std.proofs.lemmas.List.{get_or-append-add}
use Rattle.std.proofs.lemmas.List.Sums.{sum_by-cons}
use Rattle.std.specs.declared.cmp.Ordering.{Ordering}
use Rattle.std.specs.declared.cmp.Ordering.TheVariants.{Less, Equal, Greater}
use Rattle.std.specs.Ordering.{MatchOrdering, int_cmp, is_lt, ordering_then}
use Rattle.std.specs.Cmp.{int_ranks}
use Rattle.sched_base.specs.declared.task.Task.{Task}
use Rattle.policy_tree.specs.declared.variables.TheConstants.{THREAD_ATTRIBUTES}
use Rattle.policy_tree.specs.Meaning.{KeyTree, least_first}
use Rattle.policy_tree.specs.Trees.{variable}
use Rattle.policy_eval.specs.Orders.{best_and_rest, better_and_rest}
use Rattle.policy_eval.specs.Sights.{no_attributes, thread_values}
use Rattle.policy_eval.specs.Values.{variable_of}
use Rattle.round_model.specs.Work.{before}
use Rattle.waiting_laws.specs.Least.{IsValued, at_least_zero, lag}
use Rattle.waiting_laws.specs.Slices.{value_in}

-- a lesser whole number gives no greater one of these, and a lesser one below one above 0
pub zero_lower : (x y : ℤ) → x ≤ℤ y → at_least_zero x ≤ at_least_zero y
zero_lower (pos n) (pos m) less = omega (arith, ints)
zero_lower (pos n) (negsuc m) less = absurd (omega (arith, ints))
zero_lower (negsuc n) (pos m) less = omega arith
zero_lower (negsuc n) (negsuc m) less = omega arith

pub zero_less : (x y : ℤ) → x <ℤ y → pos 0 <ℤ y → suc (at_least_zero x) ≤ at_least_zero y
zero_less (pos n) (pos m) less some = omega (arith, ints)
zero_less (negsuc n) (pos m) less some = omega (arith, ints)
zero_less x (negsuc m) less some = absurd (omega (arith, ints))

-- the value is what the elect order sees
seen_value : (a : ℕ) (t : Task) → variable_of (thread_values t.weight t.attrs) (THREAD_ATTRIBUTES + a) ≡ value_in a t
unfolding thread_values
seen_value a t = get_or-append-add (pos 0 ∷ pos 0 ∷ pos 0 ∷ pos 0 ∷ pos t.weight ∷ pos 0 ∷ (no_attributes ++ no_attributes)) t.attrs a (pos 0)

-- who comes before by the least value has a lesser one
module _ (a : ℕ) where
  abbrev pub key : KeyTree
  key = least_first (variable (THREAD_ATTRIBUTES + a))

  lesser : (o : Ordering) (v w : ℤ) → MatchOrdering o (v <ℤ w) (v ≡ w) (w <ℤ v) → is_lt (ordering_then o Equal) ≡ true → v <ℤ w
  lesser Less v w ranks is = ranks
  lesser Equal v w ranks is = absurd (cc)
  lesser Greater v w ranks is = absurd (cc)

  before_is : (t u : Task) → before (key ∷ []) t u ≡ true → value_in a t <ℤ value_in a u
  before_is t u is =
      subst (λ v. v <ℤ value_in a u) (seen_value a t) (subst (λ w. variable_of (thread_values t.weight t.attrs) (THREAD_ATTRIBUTES + a) <ℤ w) (seen_value a u)
      (let v = variable_of (thread_values t.weight t.attrs) (THREAD_ATTRIBUTES + a) in let w = variable_of (thread_values u.weight u.attrs) (THREAD_ATTRIBUTES + a) in lesser (int_cmp v w) v w (int_ranks v w) is))

-- the thread that waits is the best, or the best stood before it, or the best has a lesser value and stood behind it
pub data BestTaken (a x : ℕ) (u : ℤ) (place : ℕ) (best : Task) (rest : List Task) : Type 0 where
  itself : best.id ≡ x → BestTaken a x u place best rest
  nearer : (ahead : ℕ) → place ≡ suc ahead → IsSomeAnd (slice_get rest ahead) (IsValued a x u) → BestTaken a x u place best rest
  passed : value_in a best <ℤ u → IsSomeAnd (slice_get rest place) (IsValued a x u) → BestTaken a x u place best rest

module _ (a x : ℕ) (u : ℤ) where
  past_first : (t : Task) (ts : List Task) (place : ℕ) → IsSomeAnd (slice_get (t ∷ ts) place) (IsValued a x u) → BestTaken a x u place t ts
  past_first t ts zero is = itself is.0
  past_first t ts (suc place) is = nearer place refl is

  past_later : (t best : Task) (ts rest : List Task) → value_in a best <ℤ value_in a t
      → ((place : ℕ) → IsSomeAnd (slice_get ts place) (IsValued a x u) → BestTaken a x u place best rest)
      → (place : ℕ) → IsSomeAnd (slice_get (t ∷ ts) place) (IsValued a x u) → BestTaken a x u place best (t ∷ rest)
  past_later t best ts rest less later zero is = passed (subst (λ v. value_in a best <ℤ v) is.1 less) is
  past_later t best ts rest less later (suc place) is = by_later (later place is)
    where
      by_later : BestTaken a x u place best rest → BestTaken a x u (suc place) best (t ∷ rest)
      by_later (itself same) = itself same
      by_later (nearer ahead next there) = nearer (suc ahead) (ap suc next) there
      by_later (passed lower there) = passed lower there

  -- the best of a queue, and the others
  pub record Split (queue : List Task) (found : Task × List Task) : Type 0 where
    pub past : (place : ℕ) → IsSomeAnd (slice_get queue place) (IsValued a x u) → BestTaken a x u place found.0 found.1
    pub lags : sum_by (lag a u) found.1 + lag a u found.0 ≡ sum_by (lag a u) queue

  first_split : (t : Task) (ts : List Task) → Split (t ∷ ts) (t, ts)
  first_split t ts = record { past = past_first t ts; lags = let all = sum_by-cons (lag a u) t ts in omega arith }

  later_split : (t : Task) (ts : List Task) (found : Task × List Task) → value_in a found.0 <ℤ value_in a t → Split ts found → Split (t ∷ ts) (found.0, t ∷ found.1)
  later_split t ts found less split = record {
    past = past_later t found.0 ts found.1 less split.past;
    lags = let all = sum_by-cons (lag a u) t ts in let others = sum_by-cons (lag a u) t found.1 in let rest = split.lags in omega arith;
  }

  abbrev pub SplitIfFound : List Task → Option (Task × List Task) → Type 0
  SplitIfFound queue None = queue ≡ []
  SplitIfFound queue (Some found) = Split queue found

  pub splits : (queue : List Task) → SplitIfFound queue (best_and_rest (before (key a ∷ [])) queue)
  splits [] = refl
  splits (t ∷ ts) = by_later (best_and_rest (before (key a ∷ [])) ts) (splits ts)
    where
      by_later : (later : Option (Task × List Task)) → SplitIfFound ts later → Split (t ∷ ts) (better_and_rest (before (key a ∷ [])) t ts later)
      by_later None none = first_split t ts
      by_later (Some later) split =
          elim (before (key a ∷ []) later.0 t) as (λ b. before (key a ∷ []) later.0 t ≡ b → Split (t ∷ ts) (cond b (later.0, t ∷ later.1) (t, ts))) [
            | true ↦ λ is. later_split t ts later (before_is a later.0 t is) split
            | false ↦ λ is. first_split t ts
          ] refl

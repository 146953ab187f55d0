-- What is taken is never more than there was, whether or not a number stands twice.
use Rattle.std.proofs.Common.{◌≡◌, ℕ, suc, ◌+◌, ◌*◌, ◌-◌, ◌≤◌, All, ◌==◌, ◌||◌, Bool, true, false, cond, List, [], ◌∷◌, ◌++◌, length, sum_by, Some, None, Option, eq-eqb, refl, sym, ap, subst, ◌∙◌, arith}
use Rattle.std.proofs.lemmas.List.Sums.{sum_by-cons}
use Rattle.std.proofs.lemmas.Option.{same_Some}
use Rattle.sched_base.specs.declared.task.Task.{Task}
use Rattle.policy_eval.specs.Orders.{best_of, better_of}
use Rattle.round_model.specs.Batches.{is_named, unnamed}

-- a number more at the end is a number more for what is left
named-more : (ids : List ℕ) (id x : ℕ) → is_named (ids ++ id ∷ []) x ≡ (is_named ids x || is_named (id ∷ []) x)
named-more [] id x = refl
named-more (i ∷ ids) id x = at (x == i) (named-more ids id x)
  where
    at : (b : Bool) → is_named (ids ++ id ∷ []) x ≡ (is_named ids x || is_named (id ∷ []) x) → (b || is_named (ids ++ id ∷ []) x) ≡ ((b || is_named ids x) || is_named (id ∷ []) x)
    at true same = refl
    at false same = same

unnamed-more : (ids : List ℕ) (id : ℕ) (ts : List Task) → unnamed (ids ++ id ∷ []) ts ≡ unnamed (id ∷ []) (unnamed ids ts)
unnamed-more ids id [] = refl
unnamed-more ids id (t ∷ ts) =
    ap (λ b. cond b (unnamed (ids ++ id ∷ []) ts) (t ∷ unnamed (ids ++ id ∷ []) ts)) (named-more ids id t.id) ∙ at (is_named ids t.id) (unnamed-more ids id ts)
  where
    at : (b : Bool) → unnamed (ids ++ id ∷ []) ts ≡ unnamed (id ∷ []) (unnamed ids ts)
        → cond (b || is_named (id ∷ []) t.id) (unnamed (ids ++ id ∷ []) ts) (t ∷ unnamed (ids ++ id ∷ []) ts) ≡ unnamed (id ∷ []) (cond b (unnamed ids ts) (t ∷ unnamed ids ts))
    at true same = same
    at false same = ap (λ (rest : List Task). cond (is_named (id ∷ []) t.id) rest (t ∷ rest)) same

module _ (f : Task → ℕ) where
  unnamed-less : (ids : List ℕ) (ts : List Task) → sum_by f (unnamed ids ts) ≤ sum_by f ts
  unnamed-less ids [] = omega arith
  unnamed-less ids (t ∷ ts) = at (is_named ids t.id) (unnamed-less ids ts)
    where
      at : (b : Bool) → sum_by f (unnamed ids ts) ≤ sum_by f ts → sum_by f (cond b (unnamed ids ts) (t ∷ unnamed ids ts)) ≤ sum_by f (t ∷ ts)
      at true less = let e : sum_by f (unnamed ids ts) ≤ sum_by f (t ∷ ts) = omega (arith, less, sum_by-cons f t ts) in e
      at false less = let e : sum_by f (t ∷ unnamed ids ts) ≤ sum_by f (t ∷ ts) = omega (arith, less, sum_by-cons f t ts, sum_by-cons f t (unnamed ids ts)) in e

  -- without the best and all of its number
  best-less : (before : Task → Task → Bool) (ts : List Task) (b : Task) → best_of before ts ≡ Some b → sum_by f (unnamed (b.id ∷ []) ts) + f b ≤ sum_by f ts
  best-less before [] b is = absurd (cc)
  best-less before (t ∷ ts) b is = among (λ l. best-less before ts l) (best_of before ts) refl is
    where
      head : sum_by f (unnamed (t.id ∷ []) (t ∷ ts)) + f t ≤ sum_by f (t ∷ ts)
      head = at (is_named (t.id ∷ []) t.id) (ap (λ c. c || false) (eq-eqb t.id t.id refl))
        where
          at : (c : Bool) → c ≡ true → sum_by f (cond c (unnamed (t.id ∷ []) ts) (t ∷ unnamed (t.id ∷ []) ts)) + f t ≤ sum_by f (t ∷ ts)
          at true same = let e : sum_by f (unnamed (t.id ∷ []) ts) + f t ≤ sum_by f (t ∷ ts) = omega (arith, sum_by-cons f t ts, unnamed-less (t.id ∷ []) ts) in e
          at false same = absurd (cc)

      tail : (l : Task) → sum_by f (unnamed (l.id ∷ []) ts) + f l ≤ sum_by f ts → sum_by f (unnamed (l.id ∷ []) (t ∷ ts)) + f l ≤ sum_by f (t ∷ ts)
      tail l less = at (is_named (l.id ∷ []) t.id)
        where
          at : (c : Bool) → sum_by f (cond c (unnamed (l.id ∷ []) ts) (t ∷ unnamed (l.id ∷ []) ts)) + f l ≤ sum_by f (t ∷ ts)
          at true = let e : sum_by f (unnamed (l.id ∷ []) ts) + f l ≤ sum_by f (t ∷ ts) = omega (arith, less, sum_by-cons f t ts) in e
          at false = let e : sum_by f (t ∷ unnamed (l.id ∷ []) ts) + f l ≤ sum_by f (t ∷ ts) = omega (arith, less, sum_by-cons f t ts, sum_by-cons f t (unnamed (l.id ∷ []) ts)) in e

      which : (l : Task) → sum_by f (unnamed (l.id ∷ []) ts) + f l ≤ sum_by f ts → (c : Bool) → Some (cond c l t) ≡ Some b → sum_by f (unnamed (b.id ∷ []) (t ∷ ts)) + f b ≤ sum_by f (t ∷ ts)
      which l less true same = subst (λ (x : Task). sum_by f (unnamed (x.id ∷ []) (t ∷ ts)) + f x ≤ sum_by f (t ∷ ts)) (same_Some l b same) (tail l less)
      which l less false same = subst (λ (x : Task). sum_by f (unnamed (x.id ∷ []) (t ∷ ts)) + f x ≤ sum_by f (t ∷ ts)) (same_Some t b same) head

      among : ((l : Task) → best_of before ts ≡ Some l → sum_by f (unnamed (l.id ∷ []) ts) + f l ≤ sum_by f ts) → (o : Option Task) → best_of before ts ≡ o → Some (better_of before t o) ≡ Some b
          → sum_by f (unnamed (b.id ∷ []) (t ∷ ts)) + f b ≤ sum_by f (t ∷ ts)
      among rest None none same = subst (λ (x : Task). sum_by f (unnamed (x.id ∷ []) (t ∷ ts)) + f x ≤ sum_by f (t ∷ ts)) (same_Some t b same) head
      among rest (Some l) some same = which l (rest l some) (before l t) same

  -- one number more: at least its task is gone
  pub more-less : (before : Task → Task → Bool) (ids : List ℕ) (ts : List Task) (b : Task) → best_of before (unnamed ids ts) ≡ Some b
      → sum_by f (unnamed (ids ++ b.id ∷ []) ts) + f b ≤ sum_by f (unnamed ids ts)
  more-less before ids ts b is = subst (λ (left : List Task). sum_by f left + f b ≤ sum_by f (unnamed ids ts)) (sym (unnamed-more ids b.id ts)) (best-less before (unnamed ids ts) b is)

  pub first-less : (before : Task → Task → Bool) (ts : List Task) (b : Task) → best_of before ts ≡ Some b → sum_by f (unnamed (b.id ∷ []) ts) + f b ≤ sum_by f ts
  first-less before ts b is = best-less before ts b is

pub ones : (ts : List Task) → sum_by (λ (t : Task). 1) ts ≡ length ts
ones [] = refl
ones (t ∷ ts) = let e : sum_by (λ (x : Task). 1) (t ∷ ts) ≡ suc (length ts) = omega (arith, ones ts, sum_by-cons (λ (x : Task). 1) t ts) in e

pub sum-alone : (f : Task → ℕ) (t : Task) → sum_by f (t ∷ []) ≡ f t
sum-alone f t = let none : sum_by f [] ≡ 0 = refl in omega (arith, none, sum_by-cons f t [])

-- how far tasks stay below the greatest weight, and above the least
all_tail : (P : Task → Type 0) (t : Task) (ts : List Task) → All P (t ∷ ts) → All P ts
all_tail P t ts each k d inside = each (suc k) d (omega arith)

pub spare-any : (greatest : ℕ) (ts : List Task) → length ts * greatest ≤ sum_by (λ (t : Task). greatest - t.weight) ts + sum_by (λ (t : Task). t.weight) ts
spare-any greatest [] = omega arith
spare-any greatest (t ∷ ts) =
    let e : suc (length ts) * greatest ≤ sum_by (λ (x : Task). greatest - x.weight) (t ∷ ts) + sum_by (λ (x : Task). x.weight) (t ∷ ts) =
    omega (arith, spare-any greatest ts, sum_by-cons (λ (x : Task). greatest - x.weight) t ts, sum_by-cons (λ (x : Task). x.weight) t ts) in e

pub spare-all : (greatest : ℕ) (ts : List Task) → All (λ (t : Task). t.weight ≤ greatest) ts
    → sum_by (λ (t : Task). greatest - t.weight) ts + sum_by (λ (t : Task). t.weight) ts ≡ length ts * greatest
spare-all greatest [] each = let none : sum_by (λ (t : Task). greatest - t.weight) [] + sum_by (λ (t : Task). t.weight) [] ≡ 0 = refl in omega (arith, none)
spare-all greatest (t ∷ ts) each =
    let e : sum_by (λ (x : Task). greatest - x.weight) (t ∷ ts) + sum_by (λ (x : Task). x.weight) (t ∷ ts) ≡ suc (length ts) * greatest =
    omega (arith, spare-all greatest ts (all_tail (λ (x : Task). x.weight ≤ greatest) t ts each), each 0 t (omega arith), sum_by-cons (λ (x : Task). greatest - x.weight) t ts, sum_by-cons (λ (x : Task). x.weight) t ts) in e

pub extra-any : (least : ℕ) (ts : List Task) → sum_by (λ (t : Task). t.weight) ts ≤ sum_by (λ (t : Task). t.weight - least) ts + length ts * least
extra-any least [] = let none : sum_by (λ (t : Task). t.weight) [] ≡ 0 = refl in omega (arith, none)
extra-any least (t ∷ ts) =
    let e : sum_by (λ (x : Task). x.weight) (t ∷ ts) ≤ sum_by (λ (x : Task). x.weight - least) (t ∷ ts) + suc (length ts) * least =
    omega (arith, extra-any least ts, sum_by-cons (λ (x : Task). x.weight - least) t ts, sum_by-cons (λ (x : Task). x.weight) t ts) in e

pub extra-all : (least : ℕ) (ts : List Task) → All (λ (t : Task). least ≤ t.weight) ts
    → sum_by (λ (t : Task). t.weight - least) ts + length ts * least ≡ sum_by (λ (t : Task). t.weight) ts
extra-all least [] each = let none : sum_by (λ (t : Task). t.weight - least) [] ≡ 0 = refl in let same : sum_by (λ (t : Task). t.weight) [] ≡ 0 = refl in omega (arith, none, same)
extra-all least (t ∷ ts) each =
    let e : sum_by (λ (x : Task). x.weight - least) (t ∷ ts) + suc (length ts) * least ≡ sum_by (λ (x : Task). x.weight) (t ∷ ts) =
    omega (arith, extra-all least ts (all_tail (λ (x : Task). least ≤ x.weight) t ts each), each 0 t (omega arith), sum_by-cons (λ (x : Task). x.weight - least) t ts, sum_by-cons (λ (x : Task). x.weight) t ts) in e

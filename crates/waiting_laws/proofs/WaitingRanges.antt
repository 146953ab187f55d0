-- The value of one attribute lies in its range, and a place where a thread stands in the queue.
use Rattle.std.proofs.Common.{◌≡◌, ℕ, ℤ, zero, suc, ◌-◌, ◌<◌, List, [], ◌∷◌, ◌++◌, replicate, length, map, Some, option_map, slice_get, slice_index_or, pos, All, IsSomeAnd, subst, arith}
use Rattle.std.specs.List.{AllZip}
use Rattle.sched_base.specs.declared.limits.TheConstants.{MAX_ATTRIBUTES}
use Rattle.sched_base.specs.declared.task.Task.{Task}
use Rattle.policy_tree.specs.declared.typed.Attr.{Attr}
use Rattle.policy_tree.specs.Meaning.{Meaning}
use Rattle.policy_eval.specs.Fitting.{IsTask}
use Rattle.policy_eval.specs.Ranges.{IsIn, Range, declared_range, range}
use Rattle.waiting_laws.specs.Slices.{value_in}

-- the number at a place of a list lies in the range at that place
range_at : (attrs : List Attr) (more : List Range) (values : List ℤ) (a : ℕ) (r : Range) → option_map declared_range (slice_get attrs a) ≡ Some r
    → AllZip IsIn (map declared_range attrs ++ more) values → IsIn r (slice_index_or values a (pos 0))
range_at [] more values a r is each = absurd (cc)
range_at (x ∷ attrs) more [] a r is each = absurd each
range_at (x ∷ attrs) more (v ∷ values) zero r is each = subst (λ (s : Range). IsIn s v) (cc) each.0
range_at (x ∷ attrs) more (v ∷ values) (suc a) r is each = range_at attrs more values a r is each.1

pub value_in_range : (p : Meaning) (a : ℕ) (r : Range) → option_map declared_range (slice_get p.thread_attrs a) ≡ Some r → (t : Task) → IsTask p t → IsIn r (value_in a t)
value_in_range p a r is t task = range_at p.thread_attrs (replicate (MAX_ATTRIBUTES - length p.thread_attrs) (range (pos 0) (pos 0))) t.attrs a r is task.attrs

-- a place where a thread stands lies in the queue
pub place_inside : (Is : Task → Type 0) (queue : List Task) (place : ℕ) → IsSomeAnd (slice_get queue place) Is → place < length queue
place_inside Is [] place is = absurd is
place_inside Is (t ∷ ts) zero is = omega arith
place_inside Is (t ∷ ts) (suc place) is = let rest = place_inside Is ts place is in omega arith

-- a thread that stands at a place of a queue has what all there have
pub one_of : (Is Has : Task → Type 0) (queue : List Task) (place : ℕ) → All Has queue → IsSomeAnd (slice_get queue place) Is → (t : Task) × Has t × Is t
one_of Is Has [] place each is = absurd is
one_of Is Has (t ∷ ts) zero each is = (t, each 0 t (omega arith), is)
one_of Is Has (t ∷ ts) (suc place) each is = one_of Is Has ts place (λ k d inside. each (suc k) d (omega arith)) is

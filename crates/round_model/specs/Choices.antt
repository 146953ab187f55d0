-- Which core is chosen to steal from, and on which core a thread is placed.
use Rattle.std.specs.Prelude.{ℕ, ◌≤◌, ◌==◌, not, ◌&&◌, Bool, List, filter, int_lt, Option, Some, slice_index_or}
use Rattle.std.specs.List.{range_with_len}
use Rattle.sched_base.specs.declared.limits.TheConstants.{MAX_LOAD}
use Rattle.policy_tree.specs.Meaning.{Meaning, PlaceTree, here, least}
use Rattle.policy_tree.specs.Trees.{ExprTree}
use Rattle.policy_eval.specs.declared.env.CoreValues.{CoreValues}
use Rattle.policy_eval.specs.Orders.{best_of, precedes}
use Rattle.policy_eval.specs.Ranges.{AreIn, wide_ranges}
use Rattle.policy_eval.specs.Sights.{core_values, no_attributes, pair_values}
use Rattle.policy_eval.specs.Values.{holds, value_of}

-- nothing is known of a core that isn't there
abbrev pub no_values : CoreValues
no_values = record { nr = 0; load = 0; consts = no_attributes }

-- the values of each core, from the list of all cores
abbrev pub values_in : List CoreValues → ℕ → CoreValues
values_in list c = slice_index_or list c no_values

-- whether a core with the first values may steal from one with the second
abbrev pub may_steal : Meaning → CoreValues → CoreValues → Bool
may_steal p own victim = holds (pair_values own victim) p.filter

-- whether the core a may steal from the core v, with these values of the cores
abbrev pub is_candidate : Meaning → (ℕ → CoreValues) → ℕ → ℕ → Bool
is_candidate p values a v = not (a == v) && may_steal p (values a) (values v)

-- the cores of so many that a may steal from, in the order of their numbers
unfoldable pub candidates_of : Meaning → ℕ → (ℕ → CoreValues) → ℕ → List ℕ
candidates_of p cores values a = filter (is_candidate p values a) (range_with_len 0 cores)

-- whether the core a prefers the core v to the core w
abbrev pub prefers : Meaning → (ℕ → CoreValues) → ℕ → ℕ → ℕ → Bool
prefers p values a v w =
    precedes p.choose (pair_values (values a) (values v)) (pair_values (values a) (values w))

-- the choice of the core a: the best candidate, of equals the lowest number
unfoldable pub choice_of : Meaning → ℕ → (ℕ → CoreValues) → ℕ → Option ℕ
choice_of p cores values a = best_of (prefers p values a) (candidates_of p cores values a)

-- whether the expression is less at the one core than at the other
abbrev pub is_less : ExprTree → (ℕ → CoreValues) → ℕ → ℕ → Bool
is_less e values v w = int_lt (value_of (core_values (values v)) e) (value_of (core_values (values w)) e)

-- where the core a of so many cores places a thread: on itself, or on the core of all with the least value,
-- of equals the lowest number
abbrev pub target_by : PlaceTree → ℕ → (ℕ → CoreValues) → ℕ → Option ℕ
target_by here cores values a = Some a
target_by (least e) cores values a = best_of (is_less e values) (range_with_len 0 cores)

unfoldable pub target_of : Meaning → ℕ → (ℕ → CoreValues) → ℕ → Option ℕ
target_of p cores values a = target_by p.place cores values a

-- the values of a core that placement can be asked about
pub record IsSeenWidely (seen : CoreValues) : Type 0 where
  pub load : seen.load ≤ MAX_LOAD
  pub values : AreIn wide_ranges (core_values seen)

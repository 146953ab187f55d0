-- The type in which C computes an expression. The ranges of its variables bound each of its parts.
use Rattle.std.specs.Prelude.{ℕ, ◌+◌, ◌-◌, ◌*◌, ◌==◌, nat_le, nat_lt, max, unsigned_abs, if◌then◌else◌}
use Rattle.std.specs.Prelude.{Option, Some, None, slice_get}
use Rattle.sched_base.specs.declared.limits.TheConstants.{MAX_THREADS}
use Rattle.policy_tree.specs.declared.typed.Attr.{Attr}
use Rattle.policy_tree.specs.declared.variables.TheConstants.{FRESH, OTHER_ATTRIBUTES, OTHER_LOAD, OTHER_NR, SELF_LOAD}
use Rattle.policy_tree.specs.declared.variables.TheConstants.{SELF_ATTRIBUTES, SELF_NR, THREAD_ATTRIBUTES, WEIGHT}
use Rattle.policy_tree.specs.Meaning.{Meaning}
use Rattle.policy_tree.specs.Trees.{ExprTree, number, variable, negation, plus, minus, times}
use Rattle.policy_eval.specs.Ranges.{greatest_weight}
use Rattle.c_printer.specs.declared.widths.TheConstants.{MAX_INT, MAX_LONG}
use Rattle.c_printer.specs.declared.words.Width.{Width}
use Rattle.c_printer.specs.declared.words.Width.TheVariants as width

-- the greatest magnitude in the range of an attribute
abbrev pub attribute_bound : Option Attr → ℕ
attribute_bound None = 0
attribute_bound (Some a) = max (unsigned_abs a.lo) (unsigned_abs a.hi)

-- the greatest magnitude that the variable may have
abbrev pub variable_bound : Meaning → ℕ → ℕ
variable_bound p at =
    if at == SELF_NR then MAX_THREADS
    else if at == OTHER_NR then MAX_THREADS
    else if at == SELF_LOAD then MAX_THREADS * greatest_weight p.load
    else if at == OTHER_LOAD then MAX_THREADS * greatest_weight p.load
    else if at == WEIGHT then greatest_weight p.load
    else if at == FRESH then 1
    else if nat_lt at OTHER_ATTRIBUTES then attribute_bound (slice_get p.core_attrs (at - SELF_ATTRIBUTES))
    else if nat_lt at THREAD_ATTRIBUTES then attribute_bound (slice_get p.core_attrs (at - OTHER_ATTRIBUTES))
    else attribute_bound (slice_get p.thread_attrs (at - THREAD_ATTRIBUTES))

-- the bound, where `int64_t` has all numbers of that magnitude
abbrev pub fitting : ℕ → Option ℕ
fitting bound = if nat_le bound MAX_LONG then Some bound else None

abbrev pub sum_bound : Option ℕ → Option ℕ → Option ℕ
sum_bound None other = None
sum_bound (Some one) None = None
sum_bound (Some one) (Some other) = fitting (one + other)

-- of a product with 0 too it is no less than those of its factors, which C computes all the same
abbrev pub product_bound : Option ℕ → Option ℕ → Option ℕ
product_bound None other = None
product_bound (Some one) None = None
product_bound (Some one) (Some other) = fitting (max one 1 * max other 1)

-- a bound of the expression's magnitude, where each of its parts fits `int64_t`
abbrev pub bound_of : Meaning → ExprTree → Option ℕ
bound_of p (number n) = fitting (unsigned_abs n)
bound_of p (variable at) = fitting (variable_bound p at)
bound_of p (negation e) = bound_of p e
bound_of p (plus l r) = sum_bound (bound_of p l) (bound_of p r)
bound_of p (minus l r) = sum_bound (bound_of p l) (bound_of p r)
bound_of p (times l r) = product_bound (bound_of p l) (bound_of p r)

abbrev pub width_for : Option ℕ → Width
width_for None = width.Wide
width_for (Some bound) = if nat_le bound MAX_INT then width.Small else width.Long

-- the type in which the expression is computed
abbrev pub width_of : Meaning → ExprTree → Width
width_of p e = width_for (bound_of p e)

-- What the type of an expression is meant to give.
use Rattle.std.specs.Prelude.{ℕ, pos, ◌-◌, ◌*◌, ◌^◌, ◌≤◌, unsigned_abs, List, ◌∷◌, ◌++◌, slice_index_or}
use Rattle.sched_base.specs.declared.limits.TheConstants.{MAX_THREADS}
use Rattle.policy_tree.specs.Meaning.{Meaning}
use Rattle.policy_tree.specs.Trees.{ExprTree, number, variable, negation, plus, minus, times}
use Rattle.policy_eval.specs.Forms.{IsLinear}
use Rattle.policy_eval.specs.Ranges.{IsIn, Range, attribute_ranges, greatest_weight, least_weight, range}
use Rattle.policy_eval.specs.Resolved.{IsResolved}
use Rattle.policy_eval.specs.Values.{Assignment, value_of, variable_of}
use Rattle.c_printer.specs.declared.words.Width.{Width}
use Rattle.c_printer.specs.declared.words.Width.TheVariants as width
use Rattle.c_printer.specs.Widths.{width_of}

-- the ranges of all variables under a policy, in the order of their numbers
abbrev pub variable_ranges : Meaning → List Range
variable_ranges p =
    range (pos 0) (pos MAX_THREADS)
    ∷ range (pos 0) (pos (MAX_THREADS * greatest_weight p.load))
    ∷ range (pos 0) (pos MAX_THREADS)
    ∷ range (pos 0) (pos (MAX_THREADS * greatest_weight p.load))
    ∷ range (pos (least_weight p.load)) (pos (greatest_weight p.load))
    ∷ range (pos 0) (pos 1)
    ∷ (attribute_ranges p.core_attrs ++ attribute_ranges p.core_attrs ++ attribute_ranges p.thread_attrs)

-- the range of a variable: past the last range it is 0 alone
abbrev pub range_at : List Range → ℕ → Range
range_at ranges at = slice_index_or ranges at (range (pos 0) (pos 0))

-- each variable of the expression lies in its range. What the others are doesn't matter
abbrev pub VariablesAreIn : List Range → Assignment → ExprTree → Type 0
VariablesAreIn ranges values (number n) = Unit {0}
VariablesAreIn ranges values (variable at) = IsIn (range_at ranges at) (variable_of values at)
VariablesAreIn ranges values (negation e) = VariablesAreIn ranges values e
VariablesAreIn ranges values (plus l r) = VariablesAreIn ranges values l × VariablesAreIn ranges values r
VariablesAreIn ranges values (minus l r) = VariablesAreIn ranges values l × VariablesAreIn ranges values r
VariablesAreIn ranges values (times l r) = VariablesAreIn ranges values l × VariablesAreIn ranges values r

-- neither the value of the expression nor that of a part of it is farther from 0
abbrev pub PartsAreBelow : ℕ → Assignment → ExprTree → Type 0
PartsAreBelow bound values (number n) = unsigned_abs n ≤ bound
PartsAreBelow bound values (variable at) = unsigned_abs (variable_of values at) ≤ bound
PartsAreBelow bound values (negation e) =
    (unsigned_abs (value_of values (negation e)) ≤ bound) × PartsAreBelow bound values e
PartsAreBelow bound values (plus l r) =
    (unsigned_abs (value_of values (plus l r)) ≤ bound) × (PartsAreBelow bound values l × PartsAreBelow bound values r)
PartsAreBelow bound values (minus l r) =
    (unsigned_abs (value_of values (minus l r)) ≤ bound)
    × (PartsAreBelow bound values l × PartsAreBelow bound values r)
PartsAreBelow bound values (times l r) =
    (unsigned_abs (value_of values (times l r)) ≤ bound)
    × (PartsAreBelow bound values l × PartsAreBelow bound values r)

-- the greatest number of the type, where an `int` has 32 bits
abbrev pub greatest_of : Width → ℕ
greatest_of width.Small = 2 ^ 31 - 1
greatest_of width.Long = 2 ^ 63 - 1
greatest_of width.Wide = 2 ^ 127 - 1

-- The type in which C computes a linear expression has the value of each of its parts, whatever its variables are in
-- their ranges. The expressions of a resolved policy are linear.
abbrev pub WidthLaw : Type 0
WidthLaw = (p : Meaning) (values : Assignment) (e : ExprTree) → IsResolved p → IsLinear e →
    VariablesAreIn (variable_ranges p) values e → PartsAreBelow (greatest_of (width_of p e)) values e

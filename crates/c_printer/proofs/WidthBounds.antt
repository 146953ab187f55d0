-- Why the type of an expression has the value of each of its parts.
use Rattle.std.proofs.Common.{◌≡◌, ◌≤◌, ◌+◌, ◌*◌, ℕ, ℤ, ◌+ℤ◌, ◌-ℤ◌, ◌*ℤ◌, neg_ℤ, Bool, true, false, nat_le, max, if◌then◌else◌, Option, Some, None, unsigned_abs, refl, arith}
use Rattle.std.proofs.lemmas.Bool.{leb-true}
use Rattle.std.proofs.lemmas.Int.{ints, unsigned_abs-mul}
use Rattle.std.proofs.lemmas.Nat.{mul-le}
use Rattle.policy_tree.specs.Meaning.{Meaning}
use Rattle.policy_tree.specs.Trees.{ExprTree, number, variable, negation, plus, minus, times}
use Rattle.policy_eval.specs.Resolved.{IsResolved}
use Rattle.policy_eval.specs.Values.{Assignment, value_of, variable_of}
use Rattle.c_printer.specs.declared.widths.TheConstants.{MAX_INT, MAX_LONG}
use Rattle.c_printer.specs.declared.words.Width.TheVariants as width
use Rattle.c_printer.specs.Widths.{bound_of, fitting, product_bound, sum_bound, variable_bound, width_for}
use Rattle.c_printer.specs.WidthLaws.{PartsAreBelow, VariablesAreIn, WidthLaw, greatest_of, variable_ranges}
use Rattle.c_printer.proofs.VariableBounds.{near}
use Rattle.c_printer.proofs.WiderRanges.{in_wide}
use Rattle.c_printer.proofs.Widest.{parts_small}

-- `int64_t` has the bound, and no part is above it
record IsBoundOf (bound : ℕ) (values : Assignment) (e : ExprTree) : Type 0 where
  long : bound ≤ MAX_LONG
  parts : PartsAreBelow bound values e

abs-add : (a b : ℤ) → unsigned_abs (a +ℤ b) ≤ unsigned_abs a + unsigned_abs b
abs-add a b = omega (arith, ints)

abs-sub : (a b : ℤ) → unsigned_abs (a -ℤ b) ≤ unsigned_abs a + unsigned_abs b
abs-sub a b = omega (arith, ints)

abs-neg : (a : ℤ) → unsigned_abs (neg_ℤ a) ≤ unsigned_abs a
abs-neg a = omega (arith, ints)

abs-mul : (a b : ℤ) (x y : ℕ) → unsigned_abs a ≤ x → unsigned_abs b ≤ y → unsigned_abs (a *ℤ b) ≤ x * y
abs-mul a b x y low high =
    let product = unsigned_abs-mul a b in let bound = mul-le (unsigned_abs a) (unsigned_abs b) x y low high in omega arith

-- what fits is the bound itself
record Fits (n bound : ℕ) : Type 0 where
  is : n ≡ bound
  long : n ≤ MAX_LONG

fits : (n bound : ℕ) → fitting n ≡ Some bound → Fits n bound
fits n bound given = by (nat_le n MAX_LONG) refl given
  where
    by : (small : Bool) → nat_le n MAX_LONG ≡ small → (if small then Some n else None) ≡ Some bound → Fits n bound
    by true small given = record { is = cc; long = leb-true n MAX_LONG small }
    by false small given = absurd (cc)

-- a greater number is a bound too
raised : (e : ExprTree) (m n : ℕ) (values : Assignment) → m ≤ n → PartsAreBelow m values e → PartsAreBelow n values e
raised (number k) m n values less below = omega arith
raised (variable at) m n values less below = omega arith
raised (negation e) m n values less below = (let here = below.0 in omega arith, raised e m n values less below.1)
raised (plus l r) m n values less below =
    (let here = below.0 in omega arith, (raised l m n values less below.1.0, raised r m n values less below.1.1))
raised (minus l r) m n values less below =
    (let here = below.0 in omega arith, (raised l m n values less below.1.0, raised r m n values less below.1.1))
raised (times l r) m n values less below =
    (let here = below.0 in omega arith, (raised l m n values less below.1.0, raised r m n values less below.1.1))

-- the value itself
whole : (e : ExprTree) (m : ℕ) (values : Assignment) → PartsAreBelow m values e → unsigned_abs (value_of values e) ≤ m
whole (number k) m values below = below
whole (variable at) m values below = below
whole (negation e) m values below = below.0
whole (plus l r) m values below = below.0
whole (minus l r) m values below = below.0
whole (times l r) m values below = below.0

-- both have a bound, where their sum has one
record Both (of : ℕ → ℕ → ℕ) (one other : Option ℕ) (bound : ℕ) : Type 0 where
  x : ℕ
  y : ℕ
  left : one ≡ Some x
  right : other ≡ Some y
  fits : Fits (of x y) bound

of_sum : (one other : Option ℕ) (bound : ℕ) → sum_bound one other ≡ Some bound → Both (λ x y. x + y) one other bound
of_sum None other bound given = absurd (cc)
of_sum (Some x) None bound given = absurd (cc)
of_sum (Some x) (Some y) bound given = record { x = x; y = y; left = refl; right = refl; fits = fits (x + y) bound given }

of_product : (one other : Option ℕ) (bound : ℕ) → product_bound one other ≡ Some bound →
    Both (λ x y. max x 1 * max y 1) one other bound
of_product None other bound given = absurd (cc)
of_product (Some x) None bound given = absurd (cc)
of_product (Some x) (Some y) bound given =
    record { x = x; y = y; left = refl; right = refl; fits = fits (max x 1 * max y 1) bound given }

module _ (p : Meaning) (resolved : IsResolved p) (values : Assignment) where
  bounds : (e : ExprTree) (bound : ℕ) → VariablesAreIn (variable_ranges p) values e → bound_of p e ≡ Some bound → IsBoundOf bound values e
  bounds (number n) bound are given =
      let it = fits (unsigned_abs n) bound given in let is = it.is in let long = it.long in
      record { long = omega arith; parts = omega arith }
  bounds (variable at) bound are given =
      let it = fits (variable_bound p at) bound given in let is = it.is in let long = it.long in
      let close = near p resolved at (variable_of values at) are in
      record { long = omega arith; parts = omega arith }
  bounds (negation e) bound are given =
      let inner = bounds e bound are given in
      let near = whole e bound values inner.parts in let turned = abs-neg (value_of values e) in
      record { long = inner.long; parts = (omega arith, inner.parts) }
  bounds (plus l r) bound are given =
      let it = of_sum (bound_of p l) (bound_of p r) bound given in let is = it.fits.is in let long = it.fits.long in
      let one = bounds l it.x are.0 it.left in let other = bounds r it.y are.1 it.right in
      let near = whole l it.x values one.parts in let far = whole r it.y values other.parts in
      let added = abs-add (value_of values l) (value_of values r) in
      record {
        long = omega arith;
        parts = (omega arith, (raised l it.x bound values (omega arith) one.parts, raised r it.y bound values (omega arith) other.parts));
      }
  bounds (minus l r) bound are given =
      let it = of_sum (bound_of p l) (bound_of p r) bound given in let is = it.fits.is in let long = it.fits.long in
      let one = bounds l it.x are.0 it.left in let other = bounds r it.y are.1 it.right in
      let near = whole l it.x values one.parts in let far = whole r it.y values other.parts in
      let taken = abs-sub (value_of values l) (value_of values r) in
      record {
        long = omega arith;
        parts = (omega arith, (raised l it.x bound values (omega arith) one.parts, raised r it.y bound values (omega arith) other.parts));
      }
  bounds (times l r) bound are given =
      let it = of_product (bound_of p l) (bound_of p r) bound given in let is = it.fits.is in let long = it.fits.long in
      let one = bounds l it.x are.0 it.left in let other = bounds r it.y are.1 it.right in
      let near = whole l it.x values one.parts in let far = whole r it.y values other.parts in
      let high = positive it.x it.y in
      let made = abs-mul (value_of values l) (value_of values r) (max it.x 1) (max it.y 1) (omega arith) (omega arith) in
      record {
        long = omega arith;
        parts = (omega arith, (raised l it.x bound values (omega arith) one.parts, raised r it.y bound values (omega arith) other.parts));
      }
    where
      -- neither factor is above the product
      positive : (x y : ℕ) → (x ≤ max x 1 * max y 1) × (y ≤ max x 1 * max y 1)
      positive x y =
          let one = mul-le x 1 (max x 1) (max y 1) (omega arith) (omega arith) in
          let other = mul-le 1 y (max x 1) (max y 1) (omega arith) (omega arith) in
          (omega arith, omega arith)

-- the narrower of the two types that the bound leaves
narrow : (e : ExprTree) (bound : ℕ) (values : Assignment) → IsBoundOf bound values e → (small : Bool) → nat_le bound MAX_INT ≡ small →
    PartsAreBelow (greatest_of (if small then width.Small else width.Long)) values e
narrow e bound values is true fits =
    let few = leb-true bound MAX_INT fits in raised e bound (greatest_of width.Small) values (omega arith) is.parts
narrow e bound values is false fits =
    let long = is.long in raised e bound (greatest_of width.Long) values (omega arith) is.parts

pub wide_enough : WidthLaw
wide_enough p values e is linear are = by (bound_of p e) refl
  where
    by : (found : Option ℕ) → bound_of p e ≡ found → PartsAreBelow (greatest_of (width_for found)) values e
    by None given = parts_small values e linear (in_wide p is values e are)
    by (Some bound) given = narrow e bound values (bounds p is values e bound are given) (nat_le bound MAX_INT) refl

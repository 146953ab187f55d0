-- Products of terms.
use Rattle.std.proofs.Common.{◌≡◌, ℕ, ◌*◌, eqb, ℤ, pos, neg_ℤ, ◌*ℤ◌, Bool, true, false, not, cond, ◌&&◌, refl, ap, ◌∙◌, arith, Option, Some, None, is_some}
use Rattle.std.specs.Bool.{beq}
use Rattle.std.proofs.Math.IntN.{*ℤ_comm, *ℤ-zero, zero-*ℤ}
use Rattle.std.proofs.lemmas.Int.{ints}
use Rattle.policy_tree.specs.Trees.{ExprTree, times}
use Rattle.policy_eval.specs.Forms.{constant_of, has_reference}
use Rattle.policy_eval.proofs.Products.{neg_ℤ-*ℤ}
use Rattle.policy_types.specs.declared.products.Product.{Product}
use Rattle.policy_types.specs.Products.{IsProduct, IsScaledBy, IsSingle, with_sign}

*ℤ-neg : (a b : ℤ) → a *ℤ neg_ℤ b ≡ neg_ℤ (a *ℤ b)
*ℤ-neg a b = *ℤ_comm a (neg_ℤ b) ∙ (neg_ℤ-*ℤ b a ∙ ap neg_ℤ (*ℤ_comm b a))

neg_twice : (a : ℤ) → neg_ℤ (neg_ℤ a) ≡ a
neg_twice a = omega (arith, ints)

-- the sign of a product
pub with_sign-times : (s t : Bool) (m n : ℕ) → with_sign s m *ℤ with_sign t n ≡ with_sign (not (beq s t)) (m * n)
with_sign-times false false m n = refl
with_sign-times true false m n = neg_ℤ-*ℤ (pos m) (pos n)
with_sign-times false true m n = *ℤ-neg (pos m) (pos n)
with_sign-times true true m n = neg_ℤ-*ℤ (pos m) (neg_ℤ (pos n)) ∙ (ap neg_ℤ (*ℤ-neg (pos m) (pos n)) ∙ neg_twice (pos m *ℤ pos n))

chosen-times : (b : Bool) (x y : ℤ) → cond b x (pos 0) *ℤ y ≡ cond b (x *ℤ y) (pos 0)
chosen-times true x y = refl
chosen-times false x y = zero-*ℤ y

times-chosen : (b : Bool) (x y : ℤ) → x *ℤ cond b y (pos 0) ≡ cond b (x *ℤ y) (pos 0)
times-chosen true x y = refl
times-chosen false x y = *ℤ-zero x

-- both factors are numbers
pub single_numbers : (x y : ℤ) (l r : ExprTree) → IsSingle None x l → IsSingle None y r → IsSingle None (x *ℤ y) (times l r)
single_numbers x y l r left right = record {
  form = rw (left.form, right.form, left.reference) refl;
  reference = rw (left.reference, right.reference) refl;
  constant = rw (left.constant, right.constant) refl;
  coefficient = λ v. rw (left.coefficient v, right.coefficient v, *ℤ-zero (constant_of l), zero-*ℤ (constant_of r)) refl;
}

-- the right factor is a number
pub single_left : (at : ℕ) (x y : ℤ) (l r : ExprTree) → IsSingle (Some at) x l → IsSingle None y r → IsSingle (Some at) (x *ℤ y) (times l r)
single_left at x y l r left right = record {
  form = rw (left.form, right.form, left.reference, right.reference) refl;
  reference = rw left.reference refl;
  constant = rw (left.constant, right.constant) (zero-*ℤ y);
  coefficient = λ v. rw (left.coefficient v, right.coefficient v, *ℤ-zero (constant_of l), right.constant)
      (let e = chosen-times (eqb at v) x y in omega (arith, ints));
}

-- the left factor is a number
pub single_right : (at : ℕ) (x y : ℤ) (l r : ExprTree) → IsSingle None x l → IsSingle (Some at) y r → IsSingle (Some at) (x *ℤ y) (times l r)
single_right at x y l r left right = record {
  form = rw (left.form, right.form, left.reference) refl;
  reference = rw (left.reference, right.reference) refl;
  constant = rw (left.constant, right.constant) (*ℤ-zero x);
  coefficient = λ v. rw (left.coefficient v, right.coefficient v, zero-*ℤ (constant_of r), left.constant)
      (let e = times-chosen (eqb at v) x y in omega (arith, ints));
}

-- the variable of either
abbrev pub chosen : Option ℕ → Option ℕ → Option ℕ
chosen (Some at) b = Some at
chosen None b = b

single_chosen : (a b : Option ℕ) (x y : ℤ) (l r : ExprTree) → ((is_some a && is_some b) ≡ false) → IsSingle a x l → IsSingle b y r → IsSingle (chosen a b) (x *ℤ y) (times l r)
single_chosen (Some at) (Some other) x y l r apart left right = absurd (cc)
single_chosen (Some at) None x y l r apart left right = single_left at x y l r left right
single_chosen None (Some at) x y l r apart left right = single_right at x y l r left right
single_chosen None None x y l r apart left right = single_numbers x y l r left right

-- the product of two terms of which at most one has a variable
pub product_times : (p q product : Product) (l r : ExprTree) → IsScaledBy p q (chosen p.variable q.variable) product → ((is_some p.variable && is_some q.variable) ≡ false) → IsProduct p l → IsProduct q r → IsProduct product (times l r)
product_times p q product l r scaled apart left right = record {
  exact = left.exact * right.exact;
  size = scaled.size left.exact right.exact left.size right.size;
  single = rw (scaled.variable, scaled.negative, ← with_sign-times p.negative q.negative left.exact right.exact)
      (single_chosen p.variable q.variable (with_sign p.negative left.exact) (with_sign q.negative right.exact) l r apart left.single right.single);
}

-- with what is known of whether both have a variable
pub both_refer : (p q : Product) (l r : ExprTree) → IsProduct p l → IsProduct q r → (has_reference l && has_reference r) ≡ (is_some p.variable && is_some q.variable)
both_refer p q l r left right = rw (left.single.reference, right.single.reference) refl

-- a product with what has no variable
pub apart_right : (a b : Option ℕ) → b ≡ None → (is_some a && is_some b) ≡ false
apart_right None b none = refl
apart_right (Some at) b none = ap is_some none

pub apart_left : (a b : Option ℕ) → a ≡ None → (is_some a && is_some b) ≡ false
apart_left a b none = ap (λ o. is_some o && is_some b) none

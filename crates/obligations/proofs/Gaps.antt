-- A form that adds at most one variable and takes away at most one gives rows of differences.
use Rattle.std.proofs.Common.{◌≡◌, ℕ, zero, suc, ◌<◌, ℤ, pos, negsuc, ◌-ℤ◌, neg_ℤ, Bool, true, false, cond, List, [], ◌∷◌, ◌++◌, refl, sym, ap, ◌∙◌, subst, arith, ◌⊎◌, inl, inr}
use Rattle.std.proofs.lemmas.Int.{ints}
use Rattle.std.proofs.lemmas.List.{append-nil}
use Rattle.policy_tree.specs.declared.trees.Cmp.{Cmp}
use Rattle.policy_tree.specs.declared.trees.Cmp.TheVariants as cmp
use Rattle.linear_form.specs.declared.form.Term.{Term}
use Rattle.linear_form.specs.Difference.{AreDifference, IsDifferenceRow, IsMinus, IsPlus}
use Rattle.obligations.specs.Cases.{cases_of_test}
use Rattle.obligations.specs.Forms.{LinearForm, at_most, opposite, term_of, terms_below}
use Rattle.obligations.proofs.Occurring.{AllRows}

abbrev pub unit : Bool → ℤ
unit b = cond b (pos 1) (pos 0)

-- at most one number passes the test
abbrev pub IsOfOne : (ℕ → Bool) → Type 0
IsOfOne test = (u v : ℕ) → test u ≡ true → test v ≡ true → u ≡ v

-- the coefficients of at most one variable with a plus, and of at most one with a minus
pub record IsGap (coefficient : ℕ → ℤ) : Type 0 where
  pub added : ℕ → Bool
  pub taken : ℕ → Bool
  pub one_added : IsOfOne added
  pub one_taken : IsOfOne taken
  pub is : (v : ℕ) → coefficient v ≡ unit (added v) -ℤ unit (taken v)

module _ (c : ℕ → ℤ) (gap : IsGap c) where
  abbrev Before : (ℕ → Bool) → ℕ → Type 0
  Before test n = (k : ℕ) × (test k ≡ true) × (k < n)

  once : (test : ℕ → Bool) → IsOfOne test → (n : ℕ) → Before test n → test n ≡ true → ⊥
  once test one n before here = let same = one before.0 n before.1 here in let less = before.2 in omega arith

  later : (test : ℕ → Bool) (n : ℕ) → Before test n → Before test (suc n)
  later test n before = (before.0, before.1, let less = before.2 in omega arith)

  here : (test : ℕ → Bool) (n : ℕ) → test n ≡ true → Before test (suc n)
  here test n is = (n, is, omega arith)

  -- the terms so far are of differences, and each sign in them comes of a variable below that number
  abbrev Seen : ℕ → List Term → Type 0
  Seen n [] = Unit {0}
  Seen n (x ∷ []) = (IsPlus x × Before gap.added n) ⊎ (IsMinus x × Before gap.taken n)
  Seen n (x ∷ y ∷ []) = ((IsPlus x × IsMinus y) ⊎ (IsMinus x × IsPlus y)) × Before gap.added n × Before gap.taken n
  Seen n (x ∷ y ∷ z ∷ rest) = ⊥

  seen_later : (n : ℕ) (terms : List Term) → Seen n terms → Seen (suc n) terms
  seen_later n [] seen = tt
  seen_later n (x ∷ []) (inl seen) = inl (seen.0, later gap.added n seen.1)
  seen_later n (x ∷ []) (inr seen) = inr (seen.0, later gap.taken n seen.1)
  seen_later n (x ∷ y ∷ []) seen = (seen.0, later gap.added n seen.1, later gap.taken n seen.2)
  seen_later n (x ∷ y ∷ z ∷ rest) seen = elim seen [ ]

  -- one more variable with a plus
  seen_plus : (n : ℕ) (terms : List Term) (t : Term) → IsPlus t → gap.added n ≡ true → Seen n terms → Seen (suc n) (terms ++ t ∷ [])
  seen_plus n [] t plus is seen = inl (plus, here gap.added n is)
  seen_plus n (x ∷ []) t plus is (inl seen) = absurd (once gap.added gap.one_added n seen.1 is)
  seen_plus n (x ∷ []) t plus is (inr seen) = (inr (seen.0, plus), here gap.added n is, later gap.taken n seen.1)
  seen_plus n (x ∷ y ∷ []) t plus is seen = absurd (once gap.added gap.one_added n seen.1 is)
  seen_plus n (x ∷ y ∷ z ∷ rest) t plus is seen = elim seen [ ]

  -- one more variable with a minus
  seen_minus : (n : ℕ) (terms : List Term) (t : Term) → IsMinus t → gap.taken n ≡ true → Seen n terms → Seen (suc n) (terms ++ t ∷ [])
  seen_minus n [] t minus is seen = inr (minus, here gap.taken n is)
  seen_minus n (x ∷ []) t minus is (inl seen) = (inl (seen.0, minus), later gap.added n seen.1, here gap.taken n is)
  seen_minus n (x ∷ []) t minus is (inr seen) = absurd (once gap.taken gap.one_taken n seen.1 is)
  seen_minus n (x ∷ y ∷ []) t minus is seen = absurd (once gap.taken gap.one_taken n seen.2 is)
  seen_minus n (x ∷ y ∷ z ∷ rest) t minus is seen = elim seen [ ]

  seen_none : (n : ℕ) (terms : List Term) → Seen n terms → Seen (suc n) (terms ++ [])
  seen_none n terms seen = subst (Seen (suc n)) (sym (append-nil terms)) (seen_later n terms seen)

  seen_more : (n : ℕ) (terms : List Term) (a t : Bool) → gap.added n ≡ a → gap.taken n ≡ t → Seen n terms → Seen (suc n) (terms ++ term_of n (unit a -ℤ unit t))
  seen_more n terms true true is other seen = seen_none n terms seen
  seen_more n terms true false is other seen = seen_plus n terms (record { var = n; coef = pos 1 }) refl is seen
  seen_more n terms false true is other seen = seen_minus n terms (record { var = n; coef = negsuc 0 }) refl other seen
  seen_more n terms false false is other seen = seen_none n terms seen

  seen_below : (n : ℕ) → Seen n (terms_below c n)
  seen_below zero = tt
  seen_below (suc n) =
      subst (λ x. Seen (suc n) (terms_below c n ++ term_of n x)) (sym (gap.is n))
      (seen_more n (terms_below c n) (gap.added n) (gap.taken n) refl refl (seen_below n))

  differences : (n : ℕ) (terms : List Term) → Seen n terms → AreDifference terms
  unfolding AreDifference
  differences n [] seen = tt
  differences n (x ∷ []) (inl seen) = inl seen.0
  differences n (x ∷ []) (inr seen) = inr seen.0
  differences n (x ∷ y ∷ []) seen = seen.0
  differences n (x ∷ y ∷ z ∷ rest) seen = elim seen [ ]

  pub terms-difference : (n : ℕ) → AreDifference (terms_below c n)
  terms-difference n = differences n (terms_below c n) (seen_below n)

pub at_most-difference : (d : LinearForm) (most : ℤ) → IsGap d.coefficient → IsDifferenceRow (at_most d most)
unfolding at_most
at_most-difference d most gap = terms-difference d.coefficient gap 30

pub opposite-gap : (d : LinearForm) → IsGap d.coefficient → IsGap (opposite d).coefficient
opposite-gap d gap = record {
  added = gap.taken;
  taken = gap.added;
  one_added = gap.one_taken;
  one_taken = gap.one_added;
  is = λ v. ap neg_ℤ (gap.is v) ∙ turned (gap.added v) (gap.taken v);
}
  where
    turned : (a t : Bool) → neg_ℤ (unit a -ℤ unit t) ≡ unit t -ℤ unit a
    turned a t = omega (arith, ints)

-- each row of a comparison of that form is a difference
pub test-differences : (how : Cmp) (d : LinearForm) → IsGap d.coefficient → AllRows IsDifferenceRow (cases_of_test how d)
test-differences cmp.Le d gap = ((at_most-difference d (pos 0) gap, tt), tt)
test-differences cmp.Lt d gap = ((at_most-difference d (negsuc 0) gap, tt), tt)
test-differences cmp.Ge d gap = ((at_most-difference (opposite d) (pos 0) (opposite-gap d gap), tt), tt)
test-differences cmp.Gt d gap = ((at_most-difference (opposite d) (negsuc 0) (opposite-gap d gap), tt), tt)
test-differences cmp.Eq d gap = ((at_most-difference d (pos 0) gap, (at_most-difference (opposite d) (pos 0) (opposite-gap d gap), tt)), tt)
test-differences cmp.Ne d gap =
    ((at_most-difference d (negsuc 0) gap, tt), ((at_most-difference (opposite d) (negsuc 0) (opposite-gap d gap), tt), tt))

-- Lists of derived rows that grow row by row, and when they pass a size.
use Rattle.std.proofs.Common.{◌≡◌, ℕ, ◌+◌, ◌<◌, ◌≤◌, List, [], ◌∷◌, ◌++◌, length, get_or, take, drop, All, Option, Some, None, MatchOption, Vec, Global, ℤ, ◌<ℤ◌, ◌≤ℤ◌, int_lt, true, false, subst, sym, ap, ◌∙◌, arith}
use Rattle.std.proofs.lemmas.Int.{ints}
use Rattle.std.specs.List.{flat_map}
use Rattle.std.proofs.lemmas.List.{append_assoc, append-nil, take-append-drop, take_more, length-append}
use Rattle.std.proofs.lemmas.List.Concat.{flat_map-append}
use Rattle.std.proofs.lemmas.List.Elements.{All-push}
use Rattle.std.proofs.lemmas.List.{get_or_append_left, get_or-append-add}
use Rattle.linear_solver.specs.declared.derived.Derived.{Derived}
use Rattle.linear_solver.specs.declared.derived.Shape.{Shape}
use Rattle.linear_solver.specs.declared.derived.TheConstants.{MAX_DERIVED}
use Rattle.linear_solver.specs.Elimination.{IsSmall, IsWithinSizes, sum_of}
use Rattle.linear_solver.specs.Shapes.{Extends, HasShape, IsList}
use Rattle.linear_solver.proofs.Additions.{length-added}

pub lt_test : (a b : ℤ) → a <ℤ b → int_lt a b ≡ true
lt_test a b h = grind (arith, ints)

pub ge_test : (a b : ℤ) → b ≤ℤ a → int_lt a b ≡ false
ge_test a b h = grind (arith, ints)

-- the front and the back of a list within the sizes are so
pub within_front : (xs ys : List Derived) → IsWithinSizes (xs ++ ys) → IsWithinSizes xs
within_front xs ys within = record {
  few = omega (arith, within.few, length-append xs ys);
  small = λ k d lt. subst IsSmall (get_or_append_left xs ys d k lt) (within.small k d (omega (arith, length-append xs ys)));
}

pub within_back : (xs ys : List Derived) → IsWithinSizes (xs ++ ys) → IsWithinSizes ys
within_back xs ys within = record {
  few = omega (arith, within.few, length-append xs ys);
  small = λ k d lt. subst IsSmall (get_or-append-add xs ys k d) (within.small (length xs + k) d (omega (arith, length-append xs ys)));
}

module _ (f : Derived → List Derived) (before sums list : List Derived) (i : ℕ) (d : Derived) (lt : i < length list) (front : sums ≡ before ++ flat_map f (take i list)) where
  -- one more row's sums
  one_more : sums ++ f (get_or list i d) ≡ before ++ flat_map f (take (i + 1) list)
  one_more =
      ap (λ xs. xs ++ f (get_or list i d)) front ∙ append_assoc before (flat_map f (take i list)) (f (get_or list i d))
      ∙ ap (λ xs. before ++ xs) (sym (ap (flat_map f) (take_more list i d lt) ∙ flat_map-append f (take i list) (get_or list i d ∷ []) ∙ ap (λ xs. flat_map f (take i list) ++ xs) (append-nil (f (get_or list i d)))))

  pub steps : (next : List Derived) → next ≡ sums ++ f (get_or list i d) → next ≡ before ++ flat_map f (take (i + 1) list)
  steps next is = is ∙ one_more

  -- where one more row's sums pass a size, all together do
  pub stops : (IsWithinSizes (sums ++ f (get_or list i d)) → ⊥) → IsWithinSizes (before ++ flat_map f list) → ⊥
  stops past within =
      let parts = ap (flat_map f) (sym (take-append-drop (i + 1) list)) ∙ flat_map-append f (take (i + 1) list) (drop (i + 1) list) in
      let whole = ap (λ xs. before ++ xs) parts ∙ sym (append_assoc before (flat_map f (take (i + 1) list)) (flat_map f (drop (i + 1) list))) in
      past (subst IsWithinSizes (sym one_more) (within_front _ (flat_map f (drop (i + 1) list)) (subst IsWithinSizes whole within)))

-- a sum in range has the shape of its rows
pub sum_shape : (shape : Shape) (x y : ℕ) (p q : Derived) → HasShape shape p → HasShape shape q → IsSmall (sum_of x y p q) → HasShape shape (sum_of x y p q)
sum_shape shape x y p q hp hq small = record {
  coefs = length-added x y p.coefs q.coefs (hp.coefs ∙ sym hq.coefs) ∙ hp.coefs;
  mults = length-added x y p.mults q.mults (hp.mults ∙ sym hq.mults) ∙ hp.mults;
  small = small;
}

-- one row more
pub extends_row : (shape : Shape) (list more : List Derived) (row : Derived) → IsList shape list → HasShape shape row → more ≡ row ∷ [] → (r : Option (Vec Derived Global)) → MatchOption r (MAX_DERIVED ≤ length list) (λ both. (length list < MAX_DERIVED) × (both.items ≡ list ++ row ∷ [])) → Extends shape list more r
extends_row shape list more row is fits one None full = λ within.
    omega (arith, within.few, full, length-append list more, ap length one)
extends_row shape list more row is fits one (Some both) pushed = (
  pushed.1 ∙ ap (λ xs. list ++ xs) (sym one),
  record {
    few = omega (arith, ap length pushed.1, length-append list (row ∷ []), pushed.0);
    shapes = subst (All (HasShape shape)) (sym pushed.1) (All-push (HasShape shape) list row is.shapes fits);
  },
)

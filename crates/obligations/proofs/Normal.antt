-- A condition has an outcome exactly where all rows of one of its cases hold: the normal form says what the condition says.
use Rattle.std.proofs.Common.{◌≡◌, ℕ, ℤ, pos, negsuc, neg_ℤ, ◌+ℤ◌, ◌-ℤ◌, ◌*ℤ◌, int_le, Bool, true, false, not, cond, ◌&&◌, ◌||◌, length, refl, sym, ap, ap₂, ◌∙◌, arith}
use Rattle.std.specs.Ordering.{int_eq}
use Rattle.std.proofs.lemmas.Int.{ints}
use Rattle.std.proofs.lemmas.List.{take_all}
use Rattle.policy_tree.specs.declared.trees.Cmp.{Cmp}
use Rattle.policy_tree.specs.declared.trees.Cmp.TheVariants as cmp
use Rattle.policy_tree.specs.declared.typed.Load.{Load}
use Rattle.policy_tree.specs.Trees.{ExprTree, minus, CondTree, always, negated, both, either, test}
use Rattle.policy_eval.specs.Forms.{EachSide, IsLinear, coefficient_of}
use Rattle.policy_eval.specs.Ranges.{least_weight}
use Rattle.policy_eval.specs.Values.{Assignment, compared, holds, value_of, variable_of}
use Rattle.policy_eval.proofs.Forms.{value_of-form, weighted, weighted_minus, weighted_negated}
use Rattle.policy_tree.specs.declared.variables.TheConstants.{WEIGHT}
use Rattle.obligations.specs.Forms.{LinearForm, at_most, at_weight, form_of, opposite, plain_form, weighs_one}
use Rattle.obligations.specs.Cases.{asked, below, cases_of, cases_of_test, complement, not_above}
use Rattle.obligations.proofs.Folds.{row_holds, some_crossed, some_holds, some_joined}
use Rattle.obligations.proofs.Tests.{le_moved, le_zero, lt_zero, ge_zero, gt_zero, eq_zero, ne_zero}
use Rattle.obligations.proofs.Values.{terms_below-value, weighted_without}

-- the values of all variables, under which a thread weighs what all threads weigh, if they weigh the same
pub record FitsLoad (load : Load) (values : Assignment) : Type 0 where
  pub all : length values ≡ 30
  pub weight : weighs_one load ≡ true → variable_of values WEIGHT ≡ pos (least_weight load)

-- the value of a form
abbrev pub value_of_form : Assignment → LinearForm → ℤ
value_of_form values form = form.constant +ℤ weighted form.coefficient 0 values

at_weight-value : (form : LinearForm) (weight : ℕ) (values : Assignment) → variable_of values WEIGHT ≡ pos weight → value_of_form values (at_weight weight form) ≡ value_of_form values form
at_weight-value form weight values is =
    let taken = weighted_without form.coefficient WEIGHT 0 WEIGHT values refl in
    let here : form.coefficient WEIGHT *ℤ variable_of values WEIGHT ≡ form.coefficient WEIGHT *ℤ pos weight = ap (λ x. form.coefficient WEIGHT *ℤ x) is in
    omega (arith, ints)

plain_form-value : (values : Assignment) (l r : ExprTree) → IsLinear l → IsLinear r → value_of_form values (plain_form (minus l r)) ≡ value_of values l -ℤ value_of values r
plain_form-value values l r left right =
    let one = value_of-form l left values in let other = value_of-form r right values in
    let difference = weighted_minus (coefficient_of l) (coefficient_of r) 0 values in
    omega (arith, ints)

-- the form of a difference has the difference of the values
form_of-value : (load : Load) (values : Assignment) → FitsLoad load values → (l r : ExprTree) → IsLinear l → IsLinear r → value_of_form values (form_of load (minus l r)) ≡ value_of values l -ℤ value_of values r
form_of-value load values fits l r left right = by (weighs_one load) refl
  where
    by : (b : Bool) → weighs_one load ≡ b → value_of_form values (cond b (at_weight (least_weight load) (plain_form (minus l r))) (plain_form (minus l r))) ≡ value_of values l -ℤ value_of values r
    by true same = at_weight-value (plain_form (minus l r)) (least_weight load) values (fits.weight same) ∙ plain_form-value values l r left right
    by false e = plain_form-value values l r left right

opposite-value : (values : Assignment) (d : LinearForm) → value_of_form values (opposite d) ≡ neg_ℤ (value_of_form values d)
opposite-value values d = let other = weighted_negated d.coefficient 0 values in omega (arith, ints)

-- a row compares the value of its form
row-value : (values : Assignment) → length values ≡ 30 → (d : LinearForm) (most : ℤ) → row_holds values (at_most d most) ≡ int_le (value_of_form values d) most
unfolding at_most
row-value values all d most =
    ap (λ x. int_le x (most -ℤ d.constant)) (terms_below-value d.coefficient values 30 ∙ ap (weighted d.coefficient 0) (take_all 30 values (omega arith)))
    ∙ le_moved (weighted d.coefficient 0 values) most d.constant

only : (b : Bool) → ((b && true) || false) ≡ b
only true = refl
only false = refl

only_both : (b c : Bool) → ((b && (c && true)) || false) ≡ (b && (c && true))
only_both true true = refl
only_both true false = refl
only_both false c = refl

one_row : (b c : Bool) → ((b && true) || ((c && true) || false)) ≡ (b || (c || false))
one_row true c = refl
one_row false true = refl
one_row false false = refl

-- the cases of a comparison
test-value : (how : Cmp) (values : Assignment) → length values ≡ 30 → (d : LinearForm) (x y : ℤ) → value_of_form values d ≡ x -ℤ y → some_holds values (cases_of_test how d) ≡ compared how x y
test-value how values all d x y is = by how
  where
    row : (most : ℤ) → row_holds values (at_most d most) ≡ int_le (x -ℤ y) most
    row most = row-value values all d most ∙ ap (λ v. int_le v most) is

    turned : (most : ℤ) → row_holds values (at_most (opposite d) most) ≡ int_le (neg_ℤ (x -ℤ y)) most
    turned most = row-value values all (opposite d) most ∙ ap (λ v. int_le v most) (opposite-value values d ∙ ap neg_ℤ is)

    by : (how : Cmp) → some_holds values (cases_of_test how d) ≡ compared how x y
    by cmp.Le = only _ ∙ (row (pos 0) ∙ le_zero x y)
    by cmp.Lt = only _ ∙ (row (negsuc 0) ∙ lt_zero x y)
    by cmp.Ge = only _ ∙ (turned (pos 0) ∙ ge_zero x y)
    by cmp.Gt = only _ ∙ (turned (negsuc 0) ∙ gt_zero x y)
    by cmp.Eq = only_both _ _ ∙ (ap (λ b. b && (row_holds values (not_above (opposite d)) && true)) (row (pos 0)) ∙ (ap (λ b. int_le (x -ℤ y) (pos 0) && (b && true)) (turned (pos 0)) ∙ eq_zero x y))
    by cmp.Ne = one_row _ _ ∙ (ap (λ b. b || (row_holds values (below (opposite d)) || false)) (row (negsuc 0)) ∙ (ap (λ b. int_le (x -ℤ y) (negsuc 0) || (b || false)) (turned (negsuc 0)) ∙ ne_zero x y))

-- the test, or its negation
abbrev pub with_outcome : Bool → Bool → Bool
with_outcome true b = b
with_outcome false b = not b

not_not : (b : Bool) → not (not b) ≡ b
not_not true = refl
not_not false = refl

complement-value : (how : Cmp) (x y : ℤ) → compared (complement how) x y ≡ not (compared how x y)
complement-value cmp.Eq x y = refl
complement-value cmp.Ne x y = sym (not_not (int_eq x y))
complement-value cmp.Lt x y = grind (arith, ints)
complement-value cmp.Le x y = grind (arith, ints)
complement-value cmp.Gt x y = grind (arith, ints)
complement-value cmp.Ge x y = grind (arith, ints)

asked-value : (outcome : Bool) (how : Cmp) (x y : ℤ) → compared (asked outcome how) x y ≡ with_outcome outcome (compared how x y)
asked-value true how x y = refl
asked-value false how x y = complement-value how x y

turned_outcome : (outcome b : Bool) → with_outcome (not outcome) b ≡ with_outcome outcome (not b)
turned_outcome true b = refl
turned_outcome false b = sym (not_not b)

not_and : (a b : Bool) → (not a || not b) ≡ not (a && b)
not_and true b = refl
not_and false b = refl

not_or : (a b : Bool) → (not a && not b) ≡ not (a || b)
not_or true b = refl
not_or false b = refl

-- the normal form
pub cases_of-value : (load : Load) (values : Assignment) → FitsLoad load values → (outcome : Bool) (c : CondTree) → EachSide IsLinear c
    → some_holds values (cases_of load outcome c) ≡ with_outcome outcome (holds values c)
cases_of-value load values fits true always sides = refl
cases_of-value load values fits false always sides = refl
cases_of-value load values fits outcome (negated c) sides = cases_of-value load values fits (not outcome) c sides ∙ turned_outcome outcome (holds values c)
cases_of-value load values fits true (both l r) sides =
    some_crossed values (cases_of load true l) (cases_of load true r)
    ∙ ap₂ (λ a b. a && b) (cases_of-value load values fits true l sides.0) (cases_of-value load values fits true r sides.1)
cases_of-value load values fits false (both l r) sides =
    some_joined values (cases_of load false l) (cases_of load false r)
    ∙ (ap₂ (λ a b. a || b) (cases_of-value load values fits false l sides.0) (cases_of-value load values fits false r sides.1)
    ∙ not_and (holds values l) (holds values r))
cases_of-value load values fits true (either l r) sides =
    some_joined values (cases_of load true l) (cases_of load true r)
    ∙ ap₂ (λ a b. a || b) (cases_of-value load values fits true l sides.0) (cases_of-value load values fits true r sides.1)
cases_of-value load values fits false (either l r) sides =
    some_crossed values (cases_of load false l) (cases_of load false r)
    ∙ (ap₂ (λ a b. a && b) (cases_of-value load values fits false l sides.0) (cases_of-value load values fits false r sides.1)
    ∙ not_or (holds values l) (holds values r))
cases_of-value load values fits outcome (test how l r) sides =
    test-value (asked outcome how) values fits.all (form_of load (minus l r)) (value_of values l) (value_of values r) (form_of-value load values fits l r sides.0 sides.1)
    ∙ asked-value outcome how (value_of values l) (value_of values r)

-- Where threads are counted and each comparison is one of differences, all rows of all cases are differences.
use Rattle.std.proofs.Common.{◌≡◌, ℕ, ◌≤◌, eqb, ℤ, pos, ◌+ℤ◌, ◌-ℤ◌, ◌*ℤ◌, Bool, true, false, true≢false, not, cond, List, [], ◌∷◌, ◌++◌, length, map, Option, None, Some, refl, sym, ap, ap₂, ◌∙◌, subst, arith, eqb-true, inl, inr}
use Rattle.std.specs.List.{AllByRecursion}
use Rattle.std.proofs.lemmas.Int.{ints}
use Rattle.std.proofs.lemmas.List.{map-append}
use Rattle.std.proofs.lemmas.List.Elements.{All-from_recursion}
use Rattle.policy_tree.specs.declared.typed.Load.{Load}
use Rattle.policy_tree.specs.declared.typed.Load.TheVariants as load
use Rattle.policy_tree.specs.Meaning.{BatchTree, CaseTree, Meaning, cases_on}
use Rattle.policy_tree.specs.Trees.{ExprTree, number, variable, negation, plus, minus, times, CondTree, always, negated, both, either, test}
use Rattle.policy_eval.specs.Forms.{coefficient_of, constant_of}
use Rattle.policy_eval.specs.Obligations.{Statement, idle_sees_overloaded, victim_is_overloaded, move_narrows_gap, further_move_narrows_gap, no_overlap, no_gap, filter_leaves_last, batch_leaves_last, rest_gap}
use Rattle.linear_form.specs.declared.form.Term.{Term}
use Rattle.linear_form.specs.declared.form.Row.{Row}
use Rattle.linear_form.specs.Difference.{AreDifference, IsDifference, IsDifferenceRow}
use Rattle.linear_form.specs.System.{LinearSystem}
use Rattle.obligations.specs.Cases.{asked, cases_of, crossed}
use Rattle.obligations.specs.DifferencePolicies.{ComparesDifference, ComparesDifferences, GoesOnByDifferences, HasDifferences, HaveDifferences, IsConstant, MultipliesConstants, added, taken}
use Rattle.obligations.specs.Forms.{at_most, form_of}
use Rattle.obligations.specs.Laws.{ComparisonsGiveDifferences}
use Rattle.obligations.specs.Refutations.{all_of, any_of, both_of, busier_beside_two, busy_beside_two, cores_fit, gap_is_small, gap_is_wide, goes_on_to_last, has_thread, idle_and_overloaded, moves_over_small_gap, pairs_of, victim_has_one, victim_has_thread}
use Rattle.obligations.specs.Systems.{has_variable, placed, refuting_cases, system_of_case, systems_of}
use Rattle.obligations.specs.Tallies.{guards_of}
use Rattle.obligations.proofs.Gaps.{IsGap, IsOfOne, test-differences, unit}
use Rattle.obligations.proofs.Occurring.{AllRows, crossed_rows, joined_rows}

-- how often the variable stands in the list
times_in : ℕ → List ℕ → ℤ
times_in v [] = pos 0
times_in v (at ∷ rest) = unit (eqb at v) +ℤ times_in v rest

times_in-append : (v : ℕ) (xs ys : List ℕ) → times_in v (xs ++ ys) ≡ times_in v xs +ℤ times_in v ys
unfolding times_in
times_in-append v [] ys = omega (arith, ints)
times_in-append v (at ∷ xs) ys = omega (arith, ints, times_in-append v xs ys)

-- the variable is the list's first
is_first : List ℕ → ℕ → Bool
is_first [] v = false
is_first (at ∷ rest) v = eqb at v

first_of_one : (xs : List ℕ) → IsOfOne (is_first xs)
unfolding is_first
first_of_one [] u v is other = absurd (true≢false (sym is))
first_of_one (at ∷ rest) u v is other = sym (eqb-true at u is) ∙ eqb-true at v other

times_in_one : (v : ℕ) (xs : List ℕ) → length xs ≤ 1 → times_in v xs ≡ unit (is_first xs v)
unfolding times_in is_first
times_in_one v [] few = refl
times_in_one v (at ∷ []) few = omega (arith, ints)
times_in_one v (at ∷ more ∷ rest) few = absurd (omega arith)

module _ (v : ℕ) (other : eqb v 4 ≡ false) where
  not_weight : (at : ℕ) → eqb at 4 ≡ true → eqb at v ≡ false
  not_weight at weight = by (eqb at v) refl
    where
      by : (b : Bool) → eqb at v ≡ b → eqb at v ≡ false
      by true e = absurd (true≢false (sym (subst (λ k. eqb k 4 ≡ true) (eqb-true at v e) weight) ∙ other))
      by false e = e

  constant-none : (e : ExprTree) → IsConstant e → coefficient_of e v ≡ pos 0
  constant-none (number n) is = refl
  constant-none (variable at) is = ap (λ b. cond b (pos 1) (pos 0)) (not_weight at is)
  constant-none (negation e) is = omega (arith, ints, constant-none e is)
  constant-none (plus l r) is = omega (arith, ints, constant-none l is.0, constant-none r is.1)
  constant-none (minus l r) is = omega (arith, ints, constant-none l is.0, constant-none r is.1)
  constant-none (times l r) is = product (constant_of l) (coefficient_of r v) (coefficient_of l v) (constant_of r) (constant-none r is.1) (constant-none l is.0)
    where
      product : (a b c d : ℤ) → b ≡ pos 0 → c ≡ pos 0 → a *ℤ b +ℤ c *ℤ d ≡ pos 0
      product a b c d none nothing = ap₂ (λ x y. a *ℤ x +ℤ y *ℤ d) none nothing ∙ omega (arith, ints)

  -- a coefficient is how often the variable is added, less how often it is taken away
  coefficient-is : (e : ExprTree) → MultipliesConstants e → coefficient_of e v ≡ times_in v (added e) -ℤ times_in v (taken e)
  unfolding times_in
  coefficient-is (number n) scales = refl
  coefficient-is (variable at) scales = by (eqb at 4) refl
    where
      by : (b : Bool) → eqb at 4 ≡ b → unit (eqb at v) ≡ times_in v (cond b [] (at ∷ [])) -ℤ pos 0
      by true e = ap unit (not_weight at e)
      by false e = omega (arith, ints)
  coefficient-is (negation e) scales = omega (arith, ints, coefficient-is e scales)
  coefficient-is (plus l r) scales =
      omega (arith, ints, coefficient-is l scales.0, coefficient-is r scales.1, times_in-append v (added l) (added r), times_in-append v (taken l) (taken r))
  coefficient-is (minus l r) scales =
      omega (arith, ints, coefficient-is l scales.0, coefficient-is r scales.1, times_in-append v (added l) (taken r), times_in-append v (taken l) (added r))
  coefficient-is (times l r) scales = constant-none (times l r) scales

one_but_weight : (xs : List ℕ) → IsOfOne (λ v. cond (eqb v 4) false (is_first xs v))
one_but_weight xs u v is other = first_of_one xs u v (passed (eqb u 4) (is_first xs u) is) (passed (eqb v 4) (is_first xs v) other)
  where
    passed : (b c : Bool) → cond b false c ≡ true → c ≡ true
    passed true c e = absurd (true≢false (sym e))
    passed false c e = e

form-gap : (l r : ExprTree) → ComparesDifference l r → IsGap (form_of load.Count (minus l r)).coefficient
form-gap l r is = record {
  added = λ v. cond (eqb v 4) false (is_first (added (minus l r)) v);
  taken = λ v. cond (eqb v 4) false (is_first (taken (minus l r)) v);
  one_added = one_but_weight (added (minus l r));
  one_taken = one_but_weight (taken (minus l r));
  is = λ v. by v (eqb v 4) refl;
}
  where
    by : (v : ℕ) (b : Bool) → eqb v 4 ≡ b → cond b (pos 0) (coefficient_of (minus l r) v)
        ≡ unit (cond b false (is_first (added (minus l r)) v)) -ℤ unit (cond b false (is_first (taken (minus l r)) v))
    by v true e = refl
    by v false e =
        coefficient-is v e (minus l r) is.scales
        ∙ ap₂ (λ x y. x -ℤ y) (times_in_one v (added (minus l r)) is.adds) (times_in_one v (taken (minus l r)) is.takes)

-- each row is a difference, of the cases in which the condition has that outcome
abbrev Differs : Bool → CondTree → Type 0
Differs outcome c = AllRows IsDifferenceRow (cases_of load.Count outcome c)

cross : (left right : List (List Row)) → AllRows IsDifferenceRow left → AllRows IsDifferenceRow right → AllRows IsDifferenceRow (crossed left right)
cross = crossed_rows IsDifferenceRow

join : (left right : List (List Row)) → AllRows IsDifferenceRow left → AllRows IsDifferenceRow right → AllRows IsDifferenceRow (left ++ right)
join = joined_rows IsDifferenceRow

condition-differs : (outcome : Bool) (c : CondTree) → HasDifferences c → Differs outcome c
condition-differs true always is = (tt, tt)
condition-differs false always is = tt
condition-differs outcome (negated c) is = condition-differs (not outcome) c is
condition-differs true (both l r) is = cross (cases_of load.Count true l) (cases_of load.Count true r) (condition-differs true l is.0) (condition-differs true r is.1)
condition-differs false (both l r) is = join (cases_of load.Count false l) (cases_of load.Count false r) (condition-differs false l is.0) (condition-differs false r is.1)
condition-differs true (either l r) is = join (cases_of load.Count true l) (cases_of load.Count true r) (condition-differs true l is.0) (condition-differs true r is.1)
condition-differs false (either l r) is = cross (cases_of load.Count false l) (cases_of load.Count false r) (condition-differs false l is.0) (condition-differs false r is.1)
condition-differs outcome (test how l r) is = test-differences (asked outcome how) (form_of load.Count (minus l r)) (form-gap l r is)

-- the rows of what a pair of cores is, idle and overloaded, or with a victim that isn't overloaded
idle-differs : Differs true (both (cores_fit load.Count) idle_and_overloaded)
unfolding at_most AreDifference
idle-differs = ((inl (refl, refl), (inr (refl, refl), (inl (refl, refl), (inr (refl, refl), (inl refl, (inr refl, tt)))))), tt)

one-differs : Differs true (both (cores_fit load.Count) victim_has_one)
unfolding at_most AreDifference
one-differs = ((inl (refl, refl), (inr (refl, refl), (inl (refl, refl), (inr (refl, refl), (inl refl, tt))))), tt)

-- the rows of a thread that is queued over a small gap
queued-differs : Differs true (both (cores_fit load.Count) (both (has_thread load.Count) gap_is_small))
unfolding at_most AreDifference
queued-differs = ((inl (refl, refl), (inr (refl, refl), (inl (refl, refl), (inr (refl, refl), (inl (refl, refl), (inr (refl, refl), tt)))))), tt)

next-differs : Differs true (both (cores_fit load.Count) (both victim_has_thread (both (has_thread load.Count) gap_is_small)))
unfolding at_most AreDifference
next-differs = ((inl (refl, refl), (inr (refl, refl), (inl (refl, refl), (inr (refl, refl), (inr refl, (inl (refl, refl), (inr (refl, refl), tt))))))), tt)

busy-differs : Differs true (both (cores_fit load.Count) busy_beside_two)
unfolding at_most AreDifference
busy-differs = ((inl (refl, refl), (inr (refl, refl), (inl (refl, refl), (inr (refl, refl), (inl refl, (inr refl, tt)))))), tt)

busier-differs : Differs true (both (cores_fit load.Count) busier_beside_two)
unfolding at_most AreDifference
busier-differs = ((inl (refl, refl), (inr (refl, refl), (inl (refl, refl), (inr (refl, refl), (inr refl, (inl refl, (inr refl, tt))))))), tt)

wide-differs : (gap : ℕ) → Differs true (both (cores_fit load.Count) (gap_is_wide gap))
unfolding at_most AreDifference
wide-differs gap = ((inl (refl, refl), (inr (refl, refl), (inl (refl, refl), (inr (refl, refl), (inl (refl, refl), tt))))), tt)

with_condition : (premise c : CondTree) (outcome : Bool) → Differs true premise → HasDifferences c
    → AllRows IsDifferenceRow (crossed (cases_of load.Count true premise) (cases_of load.Count outcome c))
with_condition premise c outcome first is = cross (cases_of load.Count true premise) (cases_of load.Count outcome c) first (condition-differs outcome c is)

further-differs : (batch : Option BatchTree) → GoesOnByDifferences batch → Differs true (moves_over_small_gap load.Count batch)
further-differs None is = tt
further-differs (Some batch) is =
    with_condition (both (cores_fit load.Count) (both victim_has_thread (both (has_thread load.Count) gap_is_small))) batch.condition true next-differs is

last-differs : (batch : Option BatchTree) → GoesOnByDifferences batch → Differs true (goes_on_to_last load.Count batch)
last-differs None is = tt
last-differs (Some batch) is = with_condition (both (cores_fit load.Count) busier_beside_two) batch.condition true busier-differs is

-- the rows of two guards that hold, and those of guards of which none does
pairs_with-differs : (c : CondTree) (cases : List CaseTree) (rest : List CondTree) → HasDifferences c → HaveDifferences cases
    → Differs true (any_of rest) → Differs true (any_of (map both_of (map (λ d. (c, d)) (guards_of cases)) ++ rest))
pairs_with-differs c [] rest is each all = all
pairs_with-differs c (d ∷ cases) rest is each all =
    join (cases_of load.Count true (both c d.guard)) (cases_of load.Count true (any_of (map both_of (map (λ e. (c, e)) (guards_of cases)) ++ rest)))
    (condition-differs true (both c d.guard) (is, each.0)) (pairs_with-differs c cases rest is each.1 all)

pairs-differs : (cases : List CaseTree) → HaveDifferences cases → Differs true (any_of (map both_of (pairs_of (guards_of cases))))
pairs-differs [] each = tt
pairs-differs (c ∷ cases) each =
    subst (λ ds. Differs true (any_of ds)) (sym (map-append both_of (map (λ d. (c.guard, d)) (guards_of cases)) (pairs_of (guards_of cases))))
    (pairs_with-differs c.guard cases (map both_of (pairs_of (guards_of cases))) each.0 each.1 (pairs-differs cases each.1))

gaps-differs : (cases : List CaseTree) → HaveDifferences cases → Differs true (all_of (map negated (guards_of cases)))
gaps-differs [] each = (tt, tt)
gaps-differs (c ∷ cases) each =
    cross (cases_of load.Count false c.guard) (cases_of load.Count true (all_of (map negated (guards_of cases))))
    (condition-differs false c.guard each.0) (gaps-differs cases each.1)

module _ (p : Meaning) (is : ComparesDifferences p) where
  weighted : Load → Meaning
  weighted l = record p { load = l }

  counted-differs : (s : Statement) → AllRows IsDifferenceRow (refuting_cases (weighted load.Count) s)
  unfolding weighted
  counted-differs idle_sees_overloaded = with_condition (both (cores_fit load.Count) idle_and_overloaded) p.filter false idle-differs is.filter
  counted-differs victim_is_overloaded = with_condition (both (cores_fit load.Count) victim_has_one) p.filter true one-differs is.filter
  counted-differs move_narrows_gap = with_condition (both (cores_fit load.Count) (both (has_thread load.Count) gap_is_small)) p.filter true queued-differs is.filter
  counted-differs further_move_narrows_gap = further-differs p.batch is.batch
  counted-differs (no_overlap e) = pairs-differs (cases_on p.handlers e) (is.handlers e)
  counted-differs (no_gap e) = gaps-differs (cases_on p.handlers e) (is.handlers e)
  counted-differs filter_leaves_last = with_condition (both (cores_fit load.Count) busy_beside_two) p.filter true busy-differs is.filter
  counted-differs batch_leaves_last = last-differs p.batch is.batch
  counted-differs (rest_gap gap) = with_condition (both (cores_fit load.Count) (gap_is_wide gap)) p.filter false (wide-differs gap) is.filter

  cases-differ : (s : Statement) → AllRows IsDifferenceRow (refuting_cases p s)
  unfolding weighted
  cases-differ s = subst (λ l. AllRows IsDifferenceRow (refuting_cases (weighted l) s)) (sym is.counts) (counted-differs s)

-- places in place of variables change no sign
placed-difference : (keeps : ℕ → Bool) (row : Row) → IsDifferenceRow row → IsDifferenceRow (placed keeps row)
unfolding AreDifference
placed-difference keeps row is = by row.terms is
  where
    by : (terms : List Term) → AreDifference terms → AreDifference (placed keeps (record { terms = terms; bound = row.bound })).terms
    by [] is = is
    by (x ∷ []) is = is
    by (x ∷ y ∷ []) is = is
    by (x ∷ y ∷ z ∷ rest) is = is

placed_rows-difference : (keeps : ℕ → Bool) (rows : List Row) → AllByRecursion IsDifferenceRow rows → AllByRecursion IsDifferenceRow (map (placed keeps) rows)
placed_rows-difference keeps [] all = tt
placed_rows-difference keeps (row ∷ rows) all = (placed-difference keeps row all.0, placed_rows-difference keeps rows all.1)

systems-differ : (p : Meaning) (s : Statement) (cases : List (List Row)) → AllRows IsDifferenceRow cases
    → AllByRecursion (λ (system : LinearSystem). IsDifference system.rows) (map (system_of_case p s) cases)
systems-differ p s [] all = tt
systems-differ p s (rows ∷ cases) all = (
  All-from_recursion IsDifferenceRow (map (placed (has_variable p s)) rows) (placed_rows-difference (has_variable p s) rows all.0),
  systems-differ p s cases all.1,
)

pub comparisons_give_differences : ComparisonsGiveDifferences
comparisons_give_differences p is s =
    All-from_recursion (λ (system : LinearSystem). IsDifference system.rows) (systems_of p s) (systems-differ p s (refuting_cases p s) (cases-differ p is s))

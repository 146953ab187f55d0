-- What is made of a statement is what the definitions say, once the variables that occur are marked.
use Rattle.std.proofs.Common.{◌≡◌, ℕ, zero, suc, ◌-◌, ◌*◌, ◌^◌, ◌<◌, ◌≤◌, pos, Bool, true, false, cond, List, [], ◌∷◌, ◌++◌, All, None, Some, length, map, get_or, replicate, ltb, refl, sym, ap, ap₂, subst, arith}
use Rattle.std.specs.List.{AllByRecursion}
use Rattle.std.proofs.lemmas.Bool.Decides.{nat_tests}
use Rattle.std.proofs.lemmas.Int.{ints}
use Rattle.std.proofs.lemmas.List.{length-append}
use Rattle.std.proofs.lemmas.List.Elements.{All-from_recursion}
use Rattle.policy_tree.specs.declared.typed.Attr.{Attr}
use Rattle.policy_tree.specs.Meaning.{Meaning}
use Rattle.policy_eval.specs.Obligations.{Statement}
use Rattle.policy_eval.specs.Ranges.{Range, attribute_ranges, declared_range, greatest_weight, least_weight, range}
use Rattle.policy_eval.specs.Resolved.{AreAttributes, IsAttribute, IsResolved}
use Rattle.linear_form.specs.declared.form.Row.{Row}
use Rattle.linear_form.specs.declared.form.Bound.{Bound}
use Rattle.linear_form.specs.System.{IsBound, IsRow, LinearSystem}
use Rattle.obligations.specs.declared.names.ObName.{ObName}
use Rattle.obligations.specs.Counts.{case_count, first_crowded, reported}
use Rattle.obligations.specs.Marks.{AreCases, HasSmallTerms, IsCase, placed_systems}
use Rattle.obligations.specs.Names.{statement_of}
use Rattle.obligations.specs.Refutations.{refutation}
use Rattle.obligations.specs.Systems.{bound_of, has_variable, kept_below, place_of, placed, refuting_cases, system_of_case, systems_of, variable_ranges, variables_of}
use Rattle.obligations.proofs.Congruent.{same_rows}
use Rattle.obligations.proofs.Kept.{AllByRecursion-append, AllByRecursion-mono, IsKept, all_kept}
use Rattle.obligations.proofs.Linear.{refutation-linear}
use Rattle.obligations.proofs.Occurring.{AllRows, HasKept, cases_below}
use Rattle.obligations.proofs.Ranges.{AllByRecursion-at, length-variable_ranges, none}
use Rattle.obligations.proofs.Refuted.{all_kept_rows}
use Rattle.obligations.proofs.RowsFew.{IsShort, refuting_cases_short}
use Rattle.obligations.proofs.RowsFit.{FitsPlaces, rows_fit}

-- no variable is marked at first
pub unmarked : (n v : ℕ) → get_or (replicate n false) v false ≡ false
unmarked zero v = refl
unmarked (suc n) zero = refl
unmarked (suc n) (suc v) = unmarked n v

pub kept_few : (keeps : ℕ → Bool) (n : ℕ) → length (kept_below keeps n) ≤ n
kept_few keeps zero = omega arith
kept_few keeps (suc n) =
    let long = length-append (kept_below keeps n) (cond (keeps n) (n ∷ []) []) in let front = kept_few keeps n in let one = at_most_one (keeps n) in omega arith
  where
    at_most_one : (b : Bool) → length (cond b (n ∷ []) []) ≤ 1
    at_most_one true = omega arith
    at_most_one false = omega arith

-- a range that a system may have
abbrev HasBound : Range → Type 0
HasBound r = IsBound (let b : Bound = record { lo = r.low; hi = r.high } in b)

naturals-bound : (low high : ℕ) → low ≤ high → high ≤ 2 ^ 41 → HasBound (range (pos low) (pos high))
naturals-bound low high ordered small = record { ordered = omega (arith, ints); low = omega (arith, ints); high = omega (arith, ints) }

declared-bounds : (attrs : List Attr) → All IsAttribute attrs → AllByRecursion HasBound (map declared_range attrs)
declared-bounds [] each = tt
declared-bounds (a ∷ attrs) each =
    let is = each 0 a (omega arith) in let low = is.low in let start = is.from_low in let end = is.to_high in let high = is.high in
    (record { ordered = omega (arith, ints); low = omega (arith, ints); high = omega (arith, ints) }, declared-bounds attrs (λ k d inside. each (suc k) d (omega arith)))

zeros-bounds : (n : ℕ) → AllByRecursion HasBound (replicate n (range (pos 0) (pos 0)))
zeros-bounds zero = tt
zeros-bounds (suc n) = (naturals-bound 0 0 (omega arith) (omega arith), zeros-bounds n)

attributes-bounds : (attrs : List Attr) → AreAttributes attrs → AllByRecursion HasBound (attribute_ranges attrs)
attributes-bounds attrs are =
    AllByRecursion-append HasBound (map declared_range attrs) (replicate (8 - length attrs) (range (pos 0) (pos 0))) (declared-bounds attrs are.each) (zeros-bounds (8 - length attrs))

module _ (p : Meaning) (is : IsResolved p) where
  ranges-bounds : AllByRecursion HasBound (variable_ranges p)
  ranges-bounds =
      let ordered = is.load.ordered in let small = is.load.small in
      let count = naturals-bound 0 1023 (omega arith) (omega arith) in
      let load = naturals-bound 0 (1023 * greatest_weight p.load) (omega arith) (omega (arith, small)) in
      let core = attributes-bounds p.core_attrs is.core_attrs in let thread = attributes-bounds p.thread_attrs is.thread_attrs in (
        count,
        (
          load,
          (
            count,
            (
              load,
              (
                naturals-bound (least_weight p.load) (greatest_weight p.load) ordered (omega (arith, small)),
                (
                  naturals-bound 0 1 (omega arith) (omega arith),
                  AllByRecursion-append HasBound (attribute_ranges p.core_attrs ++ attribute_ranges p.core_attrs) (attribute_ranges p.thread_attrs)
                      (AllByRecursion-append HasBound (attribute_ranges p.core_attrs) (attribute_ranges p.core_attrs) core core) thread,
                ),
              ),
            ),
          ),
        ),
      )

  bounds-fit : (vars : List ℕ) → AllByRecursion (λ v. v < 30) vars → AllByRecursion IsBound (map (bound_of p) vars)
  bounds-fit [] known = tt
  bounds-fit (v ∷ vars) known =
      (AllByRecursion-at HasBound (variable_ranges p) v none (let below = known.0 in let long = length-variable_ranges p is in omega arith) ranges-bounds, bounds-fit vars known.1)

  -- the ranges of variables that there are
  pub all_bounds : (vars : List ℕ) → AllByRecursion (λ v. v < 30) vars → All IsBound (map (bound_of p) vars)
  all_bounds vars known = All-from_recursion IsBound (map (bound_of p) vars) (bounds-fit vars known)

  module _ (s : Statement) where
    pub vars_known : AllByRecursion (λ v. v < 30) (variables_of p s)
    vars_known = AllByRecursion-mono (IsKept (has_variable p s) 30) (λ v. v < 30) (λ v kept. kept.1) (variables_of p s) (all_kept (has_variable p s) 30)

    pub small_terms : AllByRecursion (AllByRecursion HasSmallTerms) (refuting_cases p s)
    small_terms = cases_below p.load true (refutation p s)

    module _ (places : List ℕ) (keeps : ℕ → Bool) (same : (v : ℕ) → v < 30 → keeps v ≡ has_variable p s v) (each : (v : ℕ) → v < 30 → get_or places v 0 ≡ place_of keeps v) where
      fit_rows : (rows : List Row) → AllByRecursion (FitsPlaces (has_variable p s)) rows → AllByRecursion (HasKept (has_variable p s) 30) rows
          → AllByRecursion (IsRow (length (variables_of p s))) (map (placed (has_variable p s)) rows)
      fit_rows [] fits kept = tt
      fit_rows (row ∷ rows) fits kept = (fits.0 kept.0, fit_rows rows fits.1 kept.1)

      are_cases : (cases : List (List Row)) → AllByRecursion (IsShort 256) cases → AllByRecursion (AllByRecursion HasSmallTerms) cases
          → AllRows (FitsPlaces (has_variable p s)) cases → AllRows (HasKept (has_variable p s) 30) cases
          → AllByRecursion (IsCase (length (variables_of p s)) places) cases
      are_cases [] short small fits kept = tt
      are_cases (rows ∷ cases) short small fits kept = (
        record {
          short = short.0;
          terms = small.0;
          fits = subst (All (IsRow (length (variables_of p s)))) (sym (same_rows places keeps (has_variable p s) same each rows small.0))
              (All-from_recursion (IsRow (length (variables_of p s))) (map (placed (has_variable p s)) rows) (fit_rows rows fits.0 kept.0));
        },
        are_cases cases short.1 small.1 fits.1 kept.1,
      )

      -- the cases fit systems
      pub all_cases : AreCases (length (variables_of p s)) places (refuting_cases p s)
      all_cases =
          All-from_recursion (IsCase (length (variables_of p s)) places) (refuting_cases p s)
          (are_cases (refuting_cases p s) (refuting_cases_short p is s) small_terms
          (rows_fit (has_variable p s) p.load is.load true (refutation p s) (refutation-linear p is s)) (all_kept_rows p is s))

      systems_same : (cases : List (List Row)) → AllByRecursion (AllByRecursion HasSmallTerms) cases
          → placed_systems (map (bound_of p) (variables_of p s)) places cases ≡ map (system_of_case p s) cases
      systems_same [] small = refl
      systems_same (rows ∷ cases) small =
          ap₂ (λ x xs. x ∷ xs) (ap with_rows (same_rows places keeps (has_variable p s) same each rows small.0)) (systems_same cases small.1)
        where
          with_rows : List Row → LinearSystem
          with_rows there = record { bounds = map (bound_of p) (variables_of p s); rows = there }

      -- and give the systems of the statement
      pub all_systems : placed_systems (map (bound_of p) (variables_of p s)) places (refuting_cases p s) ≡ systems_of p s
      all_systems = systems_same (refuting_cases p s) small_terms

-- where no name has too many cases, the first hasn't, nor has any of the others
pub first_few : (p : Meaning) (name : ObName) (names : List ObName) → first_crowded p (name ∷ names) ≡ None → (case_count p (statement_of name) ≤ 256) × (first_crowded p names ≡ None)
first_few p name names none = by (ltb 256 (case_count p (statement_of name))) refl none
  where
    by : (b : Bool) → ltb 256 (case_count p (statement_of name)) ≡ b → cond b (Some (name, reported (case_count p (statement_of name)))) (first_crowded p names) ≡ None
        → (case_count p (statement_of name) ≤ 256) × (first_crowded p names ≡ None)
    by true e f = absurd (cc)
    by false e f = (grind (arith, nat_tests), f)

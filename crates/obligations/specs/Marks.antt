-- Marks of variables, and the places of those that are marked. This serves the code alone.
use Rattle.std.specs.Prelude.{◌≡◌, ℕ, ◌<◌, ◌≤◌, ◌||◌, ◌==◌, ℤ, pos, Bool, false, List, All, length, map, slice_index_or}
use Rattle.policy_eval.specs.Obligations.{Statement}
use Rattle.sched_base.specs.declared.limits.TheConstants.{MAX_ROWS}
use Rattle.linear_form.specs.System.{IsRow, LinearSystem}
use Rattle.policy_tree.specs.declared.typed.Attr.{Attr}
use Rattle.policy_eval.specs.Ranges.{Range, declared_range, range}
use Rattle.linear_form.specs.declared.form.Bound.{Bound}
use Rattle.std.specs.List.{AllByRecursion, list_any}
use Rattle.sched_base.specs.declared.limits.TheConstants.{MAX_VARIABLES}
use Rattle.linear_form.specs.declared.form.Term.{Term}
use Rattle.linear_form.specs.declared.form.Row.{Row}
use Rattle.obligations.specs.Systems.{always_has, occurs}

-- the terms are of variables that there are
abbrev pub HasSmallTerms : Row → Type 0
HasSmallTerms row = AllByRecursion (λ (term : Term). term.var < MAX_VARIABLES) row.terms

-- the variable occurs in the row, or in one of the rows
abbrev pub occurs_in_row : ℕ → Row → Bool
occurs_in_row v row = list_any (λ (term : Term). term.var == v) row.terms

abbrev pub occurs_in_case : ℕ → List Row → Bool
occurs_in_case v rows = list_any (occurs_in_row v) rows

-- the variables that are marked
abbrev pub kept_of : List Bool → ℕ → Bool
kept_of marks v = slice_index_or marks v false

-- these are marked, and no others that weren't before
pub record IsMarked (before after : List Bool) (marked : ℕ → Bool) : Type 0 where
  pub each : (v : ℕ) → v < MAX_VARIABLES → kept_of after v ≡ (kept_of before v || marked v)

-- the row over these places
abbrev pub placed_by : List ℕ → Row → Row
placed_by places row = record {
  terms = map (λ (term : Term). record { var = slice_index_or places term.var 0; coef = term.coef }) row.terms;
  bound = row.bound;
}

-- from 0 to that number
abbrev pub up_to : ℤ → Bound
up_to high = record { lo = pos 0; hi = high }

-- the range of an attribute, 0 alone where none is declared
abbrev pub declared_bound : List Attr → ℕ → Bound
declared_bound attrs at =
    let r : Range = slice_index_or (map declared_range attrs) at (range (pos 0) (pos 0)) in
    record { lo = r.low; hi = r.high }

-- nothing is marked
abbrev pub IsUnmarked : List Bool → Type 0
IsUnmarked marks = (v : ℕ) → v < MAX_VARIABLES → kept_of marks v ≡ false

-- the variables are marked that the statement always has
abbrev pub AlwaysMarked : List Bool → Statement → Type 0
AlwaysMarked marks s = (v : ℕ) → v < MAX_VARIABLES → kept_of marks v ≡ always_has s v

-- the rows of a case fit a system of so many variables, when their variables are in these places
pub record IsCase (variables : ℕ) (places : List ℕ) (rows : List Row) : Type 0 where
  pub short : length rows ≤ MAX_ROWS
  pub terms : AllByRecursion HasSmallTerms rows
  pub fits : All (IsRow variables) (map (placed_by places) rows)

abbrev pub AreCases : ℕ → List ℕ → List (List Row) → Type 0
AreCases variables places cases = All (IsCase variables places) cases

-- the systems of the cases
abbrev pub placed_system : List Bound → List ℕ → List Row → LinearSystem
placed_system bounds places rows = record { bounds = bounds; rows = map (placed_by places) rows }

abbrev pub placed_systems : List Bound → List ℕ → List (List Row) → List LinearSystem
placed_systems bounds places cases = map (placed_system bounds places) cases

-- the statement has the variable, where it fails in these cases
abbrev pub stays : Statement → List (List Row) → ℕ → Bool
stays s cases v = always_has s v || occurs v cases

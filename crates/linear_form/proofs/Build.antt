-- How a row is made, term by term. For whoever adds rows to a system.
use Rattle.std.proofs.Common.{ℕ, ◌<◌, ◌≤◌, List, [], ◌∷◌, ◌++◌, map, All, ℤ, unsigned_abs, sym, subst, arith}
use Rattle.std.specs.List.Sorted.{IsStrictlyIncreasing}
use Rattle.std.proofs.lemmas.Grind.{common_steps}
use Rattle.std.proofs.lemmas.List.{map-append}
use Rattle.std.proofs.lemmas.List.Elements.{All-nil, All-push, All-map}
use Rattle.sched_base.specs.declared.limits.TheConstants.{MAX_ROW_BOUND}
use Rattle.linear_form.specs.declared.form.Term.{Term}
use Rattle.linear_form.specs.declared.form.Row.{Row}
use Rattle.linear_form.specs.System.{IsRow, IsTerm}

abbrev var_of : Term → ℕ
var_of term = term.var

-- rising numbers and a greater one
rising_push : (xs : List ℕ) (x : ℕ) → IsStrictlyIncreasing xs → All (λ y. y < x) xs → IsStrictlyIncreasing (xs ++ x ∷ [])
rising_push xs x rising below k lt = grind (arith, common_steps, rising k, below k 0)

-- the row of these terms
abbrev pub row_of : List Term → ℤ → Row
row_of terms bound = record { terms = terms; bound = bound }

-- a row without a term
pub IsRow-nil : (variables : ℕ) (bound : ℤ) → unsigned_abs bound ≤ MAX_ROW_BOUND → IsRow variables (row_of [] bound)
IsRow-nil variables bound small = record { rising = λ k lt. absurd (omega arith); terms = All-nil (IsTerm variables); bound = small }

-- a row and one more term, of a variable past the others
pub IsRow-push : (variables : ℕ) (terms : List Term) (bound : ℤ) (term : Term) → IsRow variables (row_of terms bound) → IsTerm variables term → All (λ t. t.var < term.var) terms → IsRow variables (row_of (terms ++ term ∷ []) bound)
IsRow-push variables terms bound term row fits below =
    let rising = rising_push (map var_of terms) term.var row.rising (All-map (λ y. y < term.var) var_of terms below) in
    record {
      rising = subst IsStrictlyIncreasing (sym (map-append var_of terms (term ∷ []))) rising;
      terms = All-push (IsTerm variables) terms term row.terms fits;
      bound = row.bound;
    }

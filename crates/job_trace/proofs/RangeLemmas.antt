-- Numbers of a line that pass no range.
use Rattle.std.proofs.Common.{◌≡◌, ℕ, ◌≤◌, Bool, true, false, cond, List, ◌∷◌, Some, None, Option, refl, arith, ltb}
use Rattle.std.specs.Prelude.{ℤ, pos}
use Rattle.std.specs.Option.{option_or}
use Rattle.std.proofs.lemmas.Bool.Decides.{nat_tests}
use Rattle.job_trace.specs.Rules.{Measure, first_passed, passed_end, ranged}

-- no measure of a list is out of its range
pub first-none : (m : Measure) (rest : List Measure) → first_passed (m ∷ rest) ≡ None → (passed_end m ≡ None) × (first_passed rest ≡ None)
first-none m rest e = by (passed_end m) refl e
  where
    by : (o : Option ℤ) → passed_end m ≡ o → option_or o (first_passed rest) ≡ None → (passed_end m ≡ None) × (first_passed rest ≡ None)
    by None is e = (is, e)
    by (Some end) is e = cc

pub record InRange (value low high : ℕ) : Type 0 where
  pub above : low ≤ value
  pub below : value ≤ high

pub in-range : (value low high : ℕ) → passed_end (ranged value low high) ≡ None → InRange value low high
in-range value low high e = by (ltb value low) (ltb high value) refl refl e
  where
    by : (below above : Bool) → ltb value low ≡ below → ltb high value ≡ above →
        cond below (Some (pos low)) (cond above (Some (pos high)) None) ≡ None → InRange value low high
    by true above l h e = cc
    by false true l h e = cc
    by false false l h e = record { above = grind (arith, nat_tests); below = grind (arith, nat_tests) }

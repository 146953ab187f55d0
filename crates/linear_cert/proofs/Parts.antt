-- The parts of a split: how many splits are in them, and that their bounds are those of a system.
use Rattle.std.proofs.Common.{All, Bool, true, false, ◌&&◌, IsTrue, ◌↔◌, set-set, ◌≡◌, ℕ, ◌+◌, ◌<◌, List, set, ℤ, ◌≤ℤ◌, ◌<ℤ◌, length-set, refl, arith, subst, sym}
use Rattle.std.proofs.lemmas.Int.{ints}
use lib.Seq.{set-get_or}
use Rattle.std.proofs.lemmas.Grind.{common_steps}
use Rattle.linear_form.specs.declared.form.Bound.{Bound}
use Rattle.linear_form.specs.declared.form.Row.{Row}
use Rattle.linear_form.specs.System.{IsBound, IsRow, IsSystem, LinearSystem}
use Rattle.linear_cert.specs.Right.{CertTree, leaf, split, CanBeCut, IsRight, range_of, part_up_to, part_past, up_to, past}

-- how many splits a certificate has
abbrev pub splits_in : CertTree → ℕ
splits_in (leaf mults) = 0
splits_in (split variable at left right) = 1 + (splits_in left + splits_in right)

part_up_to_fits : (range : Bound) (at : ℤ) → IsBound range → range.lo ≤ℤ at → at <ℤ range.hi → IsBound (part_up_to range at)
part_up_to_fits range at fits from below = record { ordered = from; low = fits.low; high = grind (arith, ints, fits.low, fits.high) }

part_past_fits : (range : Bound) (at : ℤ) → IsBound range → range.lo ≤ℤ at → at <ℤ range.hi → IsBound (part_past range at)
part_past_fits range at fits from below = record { ordered = grind (arith, ints); low = grind (arith, ints, fits.low, fits.high); high = fits.high }

-- the system with another range for a variable
abbrev with_range : List Bound → List Row → ℕ → Bound → LinearSystem
with_range bounds rows variable range = record { bounds = set bounds variable range; rows = rows }

with_range_fits : (bounds : List Bound) (rows : List Row) (variable : ℕ) (range : Bound) → IsSystem (record { bounds = bounds; rows = rows }) → IsBound range → IsSystem (with_range bounds rows variable range)
with_range_fits bounds rows variable range system fits = record {
  few_variables = rw length-set system.few_variables;
  few_rows = system.few_rows;
  bounds_fit = λ k d lt. grind (arith, common_steps, system.bounds_fit k d, fits);
  rows_fit = subst (λ (n : ℕ). All (IsRow n) rows) (sym (length-set bounds variable range)) system.rows_fit;
}

-- both parts of a split have the bounds of a system
module _ (bounds : List Bound) (rows : List Row) (variable : ℕ) (at : ℤ) (system : IsSystem (record { bounds = bounds; rows = rows })) (cut : CanBeCut bounds variable at) where
  whole_fits : IsBound (range_of bounds variable)
  whole_fits = system.bounds_fit variable _ cut.known

  pub up_to_fits : IsSystem (record { bounds = up_to bounds variable at; rows = rows })
  up_to_fits = with_range_fits bounds rows variable _ system (part_up_to_fits _ at whole_fits cut.from cut.below)

  pub past_fits : IsSystem (record { bounds = past bounds variable at; rows = rows })
  past_fits = with_range_fits bounds rows variable _ system (part_past_fits _ at whole_fits cut.from cut.below)

-- the parts of a split certificate have fewer splits
pub fewer_left : (tree left right : CertTree) (variable : ℕ) (at : ℤ) → tree ≡ split variable at left right → splits_in left < splits_in tree
fewer_left tree left right variable at same = rw same (omega arith)

pub fewer_right : (tree left right : CertTree) (variable : ℕ) (at : ℤ) → tree ≡ split variable at left right → splits_in right < splits_in tree
fewer_right tree left right variable at same = rw same (omega arith)

-- the bounds changed once more
pub changed_again : (bounds changed : List Bound) (variable : ℕ) (first second : Bound) → changed ≡ set bounds variable first → set changed variable second ≡ set bounds variable second
changed_again bounds changed variable first second same = rw same (set-set bounds variable first second)

-- the bounds put back behind a part
pub put_back : (bounds changed : List Bound) (variable : ℕ) (range : Bound) → changed ≡ set bounds variable range → set changed variable (range_of bounds variable) ≡ bounds
put_back bounds changed variable range same = rw (same, set-set bounds variable range (range_of bounds variable)) (set-get_or bounds variable _)

-- a split that can be made is right where both parts are
pub both_parts : (bounds : List Bound) (rows : List Row) (tree left right : CertTree) (variable : ℕ) (at : ℤ) (x y : Bool) → tree ≡ split variable at left right → CanBeCut bounds variable at → (IsTrue x ↔ IsRight (up_to bounds variable at) rows left) → (IsTrue y ↔ IsRight (past bounds variable at) rows right) → (IsTrue (x && y) ↔ IsRight bounds rows tree)
both_parts bounds rows tree left right variable at true y same cut (lx, rx) (ly, ry) =
    rw same ((λ holds. (cut, lx refl, ly holds)), λ parts. ry parts.2)
both_parts bounds rows tree left right variable at false y same cut (lx, rx) (ly, ry) =
    rw same ((λ wrong. absurd (cc wrong)), λ parts. rx parts.1)

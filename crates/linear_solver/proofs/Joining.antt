-- What is found in the parts of a box is found in the box.
use Rattle.std.proofs.Common.{ℕ, zero, suc, ◌<◌, ◌≤◌, List, [], ◌∷◌, length, get_or, set, ℤ, pos, inl, inr, subst, sym, ◌∙◌, arith}
use Rattle.std.proofs.lemmas.Bool.{cases_eq}
use Rattle.std.proofs.lemmas.Int.{ints}
use Rattle.std.proofs.lemmas.List.{length-set, get_or-set_same, get_or-set_other, get_or_default}
use Rattle.linear_form.specs.declared.form.Row.{Row}
use Rattle.linear_form.specs.declared.form.Bound.{Bound}
use Rattle.linear_form.specs.Solution.{IsWithin, Solves, value_at}
use Rattle.linear_form.specs.System.{IsSystem}
use Rattle.linear_cert.specs.Right.{CanBeCut, part_past, part_up_to, past, range_of, up_to}
use Rattle.linear_cert.proofs.Parts.{up_to_fits, past_fits}
use Rattle.linear_solver.specs.declared.parts.Part.{Part}
use Rattle.linear_solver.specs.declared.parts.Part.TheVariants.{Closed, Open}
use Rattle.linear_solver.specs.declared.parts.Partition.{Partition}
use Rattle.linear_solver.specs.Boxes.{IsWide, halvings, height, width}
use Rattle.linear_solver.specs.Found.{height_of}
use Rattle.linear_solver.specs.Steps.{IsPart, IsPartition, IsSystemPart}
use Rattle.linear_solver.proofs.Heights.{halvings-some}

-- a box with a range of more than one value can be halved
height_above : (bounds : List Bound) (variable : ℕ) (d : Bound) → variable < length bounds → halvings (width (get_or bounds variable d)) ≤ height bounds
height_above [] variable d lt = absurd (omega arith)
height_above (b ∷ bounds) zero d lt = omega arith
height_above (b ∷ bounds) (suc variable) d lt = omega (arith, height_above bounds variable d (omega arith))

pub wide_height : (bounds : List Bound) (variable : ℕ) → IsWide bounds variable → 0 < height bounds
wide_height bounds variable wide =
    let none : Bound = record { lo = pos 0; hi = pos 0 } in
    let range = get_or bounds variable none in
    let some : 0 < width range = omega (arith, ints, wide.wide) in
    omega (arith, height_above bounds variable none wide.known, halvings-some (width range) some)

module _ (bounds : List Bound) (rows : List Row) (variable : ℕ) (at : ℤ) (cut : CanBeCut bounds variable at) where
  pub cut_height : 0 < height bounds
  cut_height = wide_height bounds variable (record { known = cut.known; wide = omega (arith, ints, cut.from, cut.below) })

  -- a solution with a narrower range is a solution
  wider : (range : Bound) (point : List ℤ) → ((x : ℤ) → IsWithin range x → IsWithin (range_of bounds variable) x) → Solves (set bounds variable range) rows point → Solves bounds rows point
  wider range point more solves = record {
    one_each = solves.one_each ∙ length-set bounds variable range;
    within = λ k d lt. elim (cases_eq k variable) [
      | inl same ↦
          let own = subst (λ (r : Bound). IsWithin r (value_at point variable)) (get_or-set_same bounds variable range d cut.known) (solves.within variable d (omega (arith, cut.known, length-set bounds variable range))) in
          let none : Bound = record { lo = pos 0; hi = pos 0 } in
          let within = subst (λ (r : Bound). IsWithin r (value_at point variable)) (get_or_default bounds variable none d cut.known) (more (value_at point variable) own) in
          subst (λ (j : ℕ). IsWithin (get_or bounds j d) (value_at point j)) (sym same) within
      | inr other ↦
          subst (λ (r : Bound). IsWithin r (value_at point k)) (get_or-set_other bounds variable k range d other) (solves.within k d (omega (arith, length-set bounds variable range)))
    ];
    rows_hold = solves.rows_hold;
  }

  pub solves_low : (point : List ℤ) → Solves (up_to bounds variable at) rows point → Solves bounds rows point
  solves_low point = wider (part_up_to (range_of bounds variable) at) point (λ x within. (within.0, omega (arith, ints, within.1, cut.below)))

  pub solves_high : (point : List ℤ) → Solves (past bounds variable at) rows point → Solves bounds rows point
  solves_high point = wider (part_past (range_of bounds variable) at) point (λ x within. (omega (arith, ints, within.0, cut.from), within.1))

-- a part that is searched has ranges of a system, and is lower than the whole
pub part_system : (whole ranges : List Bound) (rows : List Row) (part : Part) → IsSystem (record { bounds = ranges; rows = rows }) → IsPart whole rows ranges part → IsSystemPart rows part
part_system whole ranges rows (Closed leaf) system is = tt
part_system whole ranges rows (Open bounds) system is = rw is.0 system

pub part_height : (whole ranges : List Bound) (rows : List Row) (part : Part) → 0 < height whole → IsPart whole rows ranges part → height_of part < height whole
part_height whole ranges rows (Closed leaf) some is = some
part_height whole ranges rows (Open bounds) some is = rw is.0 is.1

module _ (bounds : List Bound) (rows : List Row) (system : IsSystem (record { bounds = bounds; rows = rows })) (partition : Partition) (is : IsPartition bounds rows partition) where
  pub low_system : IsSystemPart rows partition.low
  low_system = part_system bounds _ rows partition.low (up_to_fits bounds rows partition.variable partition.at system is.can) is.low

  pub high_system : IsSystemPart rows partition.high
  high_system = part_system bounds _ rows partition.high (past_fits bounds rows partition.variable partition.at system is.can) is.high

  pub low_height : height_of partition.low < height bounds
  low_height = part_height bounds _ rows partition.low (cut_height bounds rows partition.variable partition.at is.can) is.low

  pub high_height : height_of partition.high < height bounds
  high_height = part_height bounds _ rows partition.high (cut_height bounds rows partition.variable partition.at is.can) is.high

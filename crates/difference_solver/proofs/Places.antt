-- The places of a square table, one for each two nodes.
use Rattle.std.proofs.Common.{◌≡◌, ◌≢◌, ℕ, ◌+◌, ◌*◌, ◌/◌, ◌%◌, ◌<◌, ◌≤◌, List, length, get_or, set, get_or-set_same, get_or-set_other, mul-le-mul, le_refl, ap, sym, ◌∙◌, refl, arith}
use Rattle.std.proofs.lemmas.Nat.{div-mul-add, mod-mul-add}
use Rattle.linear_form.specs.declared.form.Bound.{Bound}
use Rattle.difference_solver.specs.declared.distance.Distance.{Distance}
use Rattle.difference_solver.specs.Distance.{no_distance}
use Rattle.difference_solver.specs.Distances.{Table, IsTable, Puts}
use Rattle.difference_solver.specs.Ranges.{HasRanges, range_distance}

-- a place lies in the table
pub place_below : (size i j : ℕ) → i < size → j < size → i * size + j < size * size
place_below size i j li lj =
    let above : (i + 1) * size ≤ size * size = mul-le-mul (omega arith) (le_refl size) in
    omega arith

-- a place of the table is one of two nodes
pub row_of_place : (size place : ℕ) → 0 < size → place < size * size → place / size < size
row_of_place size place some lt = grind arith

-- different nodes have different places
pub same_row : (size i j from to : ℕ) → j < size → to < size → i * size + j ≡ from * size + to → i ≡ from
same_row size i j from to lj lt same = sym (div-mul-add i size j lj) ∙ ap (λ p. p / size) same ∙ div-mul-add from size to lt

pub same_column : (size i j from to : ℕ) → j < size → to < size → i * size + j ≡ from * size + to → j ≡ to
same_column size i j from to lj lt same = sym (mod-mul-add i size j lj) ∙ ap (λ p. p % size) same ∙ mod-mul-add from size to lt

-- the table with another distance in a place
abbrev pub with_distance : Table → ℕ → ℕ → Distance → Table
with_distance table from to distance = record { size = table.size; items = set table.items (from * table.size + to) distance }

pub puts_distance : (table : Table) (from to : ℕ) (distance : Distance) → IsTable table → from < table.size → to < table.size → Puts table (with_distance table from to distance) from to distance
puts_distance table from to distance is_table lf lt =
    let below = place_below table.size from to lf lt in
    let within : from * table.size + to < length table.items = omega (arith, is_table.square) in
    record {
      size = refl;
      here = get_or-set_same table.items _ distance no_distance within;
      others = λ i j li lj differ.
          let ne : i * table.size + j ≢ from * table.size + to = λ same. differ (same_row table.size i j from to lj lt same) (same_column table.size i j from to lj lt same) in
          get_or-set_other table.items _ _ distance no_distance ne;
    }

-- a table that was filled place by place
pub filled : (bounds : List Bound) (rows size : ℕ) (items : List Distance) → size ≡ length bounds + 1 → ((k : ℕ) → k < size * size → get_or items k no_distance ≡ range_distance bounds rows (k / size) (k % size)) → HasRanges bounds rows (record { size = size; items = items })
filled bounds rows size items is_size each = record {
  size = is_size;
  each = λ i j li lj.
      let row : (i * size + j) / size ≡ i = div-mul-add i size j lj in
      let column : (i * size + j) % size ≡ j = mod-mul-add i size j lj in
      rw (row, column) at (each (i * size + j) (place_below size i j li lj));
}

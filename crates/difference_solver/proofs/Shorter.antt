-- What one row does to a table of distances, and several rows one after another.
use Rattle.std.proofs.Common.{◌≡◌, ℕ, ◌+◌, ◌*◌, ◌<◌, ◌≤◌, List, length, Some, All, take, get_or, slice_get, [], pos, ◌<ℤ◌, inl, inr, ◌⊎◌, ap, sym, subst, ◌∙◌, refl, arith}
use Rattle.std.proofs.lemmas.Int.{ints, by_lt_z}
use Rattle.std.proofs.lemmas.List.{take_more, take_all}
use Rattle.std.proofs.lemmas.List.Elements.{All-push, All-weaker}
use Rattle.std.proofs.lemmas.Option.{slice_get-get_or}
use Rattle.std.proofs.lemmas.Bool.{cases_eq}
use Rattle.linear_form.specs.declared.form.Bound.{Bound}
use Rattle.linear_form.specs.declared.form.Row.{Row}
use Rattle.linear_cert.specs.Rows.{numbered_row}
use Rattle.difference_solver.specs.declared.distance.Distance.{Distance}
use Rattle.difference_solver.specs.Distance.{distance_of_row}
use Rattle.difference_solver.specs.Distances.{Table, Puts, between}
use Rattle.difference_solver.specs.Meaning.{IsDistance, IsEdge, Keeps}
use Rattle.difference_solver.specs.Shortening.{Shortens}
use Rattle.difference_solver.proofs.Sums.{row_is_distance}

-- two nodes are those, or they differ from them
same_nodes : (i j from to : ℕ) → ((i ≡ from) × (j ≡ to)) ⊎ (i ≡ from → j ≡ to → ⊥)
same_nodes i j from to = elim (cases_eq i from) [
  | inl row ↦ elim (cases_eq j to) [
    | inl column ↦ inl (row, column)
    | inr other ↦ inr (λ _ column. other column)
  ]
  | inr other ↦ inr (λ row _. other row)
]

-- what holds of the new distance and of the old ones holds behind a put
behind_put : (P : ℕ → ℕ → Distance → Type 0) (old new : Table) (from to : ℕ) (distance : Distance) → Puts old new from to distance → P from to distance → (i j : ℕ) → i < old.size → j < old.size → P i j (between old i j) → P i j (between new i j)
behind_put P old new from to distance put here i j li lj was = elim (same_nodes i j from to) [
  | inl same ↦ subst (λ k. P k j (between new k j)) (sym same.0) (subst (λ k. P from k (between new from k)) (sym same.1) (subst (P from to) (sym put.here) here))
  | inr differ ↦ subst (P i j) (sym (put.others i j li lj differ)) was
]

module _ (bounds : List Bound) (rows : List Row) where
  pub unchanged : (table : Table) → Shortens bounds rows table table
  unchanged table = record { size = refl; less = λ i j li lj. omega (arith, ints); distances = λ i j li lj was. was; short = λ i j limit li lj some was. was }

  pub both : (one two three : Table) → Shortens bounds rows one two → Shortens bounds rows two three → Shortens bounds rows one three
  both one two three first second = record {
    size = second.size ∙ first.size;
    less = λ i j li lj. omega (arith, ints, first.less i j li lj, second.less i j (omega (arith, first.size)) (omega (arith, first.size)));
    distances = λ i j li lj was. second.distances i j (omega (arith, first.size)) (omega (arith, first.size)) (first.distances i j li lj was);
    short = λ i j limit li lj some was. second.short i j limit (omega (arith, first.size)) (omega (arith, first.size)) some (first.short i j limit li lj some was);
  }

  -- a row that is less is put
  pub by_row : (old new : Table) (number from to : ℕ) (row : Row) → numbered_row bounds rows number ≡ Some row → number < length rows + 2 * length bounds → IsEdge (length bounds) row.terms from to → Puts old new from to (distance_of_row number row.bound) → row.bound <ℤ (between old from to).bound → Shortens bounds rows old new
  by_row old new number from to row found lt edge put less = record {
    size = put.size;
    less = λ i j li lj. elim (same_nodes i j from to) [
      | inl same ↦
          let here : (between new i j).bound ≡ row.bound = rw (same.0, same.1) (ap (λ (d : Distance). d.bound) put.here) in
          let was : (between old i j).bound ≡ (between old from to).bound = rw (same.0, same.1) refl in
          omega (arith, ints, here, was, less)
      | inr differ ↦ omega (arith, ints, ap (λ (d : Distance). d.bound) (put.others i j li lj differ))
    ];
    distances = behind_put (IsDistance bounds rows) old new from to _ put (row_is_distance bounds rows number from to row found lt edge);
    short = λ i j limit li lj some. behind_put (λ i j distance. length distance.mults ≤ limit) old new from to _ put (omega (arith, some)) i j li lj;
  }

  -- rows that are kept stay kept
  pub still_kept : (old new : Table) (row : Row) → old.size ≡ length bounds + 1 → Shortens bounds rows old new → Keeps (length bounds) old row → Keeps (length bounds) new row
  still_kept old new row size shortens keeps =
      let edge = keeps.edge in
      record {
        from = keeps.from;
        to = keeps.to;
        edge = edge;
        kept = omega (arith, ints, keeps.kept, shortens.less keeps.from keeps.to (omega (arith, edge.from_known)) (omega (arith, edge.to_known)));
      }

  -- a row that was put is kept
  pub kept_by_put : (old new : Table) (number from to : ℕ) (row : Row) → IsEdge (length bounds) row.terms from to → Puts old new from to (distance_of_row number row.bound) → Keeps (length bounds) new row
  kept_by_put old new number from to row edge put =
      record { from = from; to = to; edge = edge; kept = omega (arith, ints, ap (λ (d : Distance). d.bound) put.here) }

  -- a row that isn't less was kept already
  pub kept_already : (table : Table) (from to : ℕ) (row : Row) → IsEdge (length bounds) row.terms from to → (row.bound <ℤ (between table from to).bound → ⊥) → Keeps (length bounds) table row
  kept_already table from to row edge enough =
      record { from = from; to = to; edge = edge; kept = by_lt_z row.bound (between table from to).bound (λ less. absurd (enough less)) (λ le. le) }

  -- one row more is kept
  pub one_more_kept : (old new : Table) (i : ℕ) → old.size ≡ length bounds + 1 → i < length rows → Shortens bounds rows old new → All (Keeps (length bounds) old) (take i rows) → ((row : Row) → slice_get rows i ≡ Some row → Keeps (length bounds) new row) → All (Keeps (length bounds) new) (take (i + 1) rows)
  one_more_kept old new i size lt shortens kept here =
      let none : Row = record { terms = []; bound = pos 0 } in
      let before = All-weaker (Keeps (length bounds) old) (Keeps (length bounds) new) (λ row. still_kept old new row size shortens) (take i rows) kept in
      let last = here (get_or rows i none) (slice_get-get_or rows i none lt) in
      subst (All (Keeps (length bounds) new)) (sym (take_more rows i none lt)) (All-push (Keeps (length bounds) new) (take i rows) (get_or rows i none) before last)

  -- all rows are kept
  pub all_kept : (table : Table) (n : ℕ) → length rows ≤ n → All (Keeps (length bounds) table) (take n rows) → All (Keeps (length bounds) table) rows
  all_kept table n le kept = subst (All (Keeps (length bounds) table)) (take_all n rows le) kept

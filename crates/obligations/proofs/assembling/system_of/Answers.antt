use Rattle.std.proofs.Common.{◌≡◌, ap, sym, subst, ◌∙◌, length, map, get_or, arith, ℕ, List}
use Rattle.std.proofs.lemmas.List.{get_or-map, length-map}
use Rattle.linear_form.specs.declared.form.Row.{Row}
use Rattle.linear_form.specs.System.{IsRow}
use Rattle.obligations.specs.Marks.{placed_by}
use Rattle.obligations.proofs.assembling.system_of.Goals as goal

pub with_row-requires-clause-row : goal.with_row-requires-clause-row
with_row-requires-clause-row c =
    let rows = c.args.rows.now in let places = c.args.places.now in let i = c.loop-row.row-index in let row = c.row-item.result in
    let there = placed_by places row in
    let whole = c.as_slice-row-items.ensures in
    let lt = c.loop-row-test.true in let same = ap length whole in let long = length-map rows (placed_by places) in
    let is : row ≡ get_or rows i row = c.row-item.is ∙ ap (λ (xs : List Row). get_or xs i row) whole in
    let here : get_or (map (placed_by places) rows) i there ≡ there =
    get_or-map (placed_by places) rows i row there (omega (arith, lt, same)) ∙ ap (placed_by places) (sym is) in
    let fits = c.requires.fits i there (omega (arith, lt, same, long)) in
    subst (λ (n : ℕ). IsRow n c.in_ok-placed.field-0) (sym (ap length c.loop-row.invariant.bounds))
    (subst (IsRow (length c.args.bounds.now)) (here ∙ sym c.in_ok-placed.ensures) fits)

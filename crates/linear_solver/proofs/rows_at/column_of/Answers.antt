use Rattle.std.proofs.Common.{◌<◌, FitsSigned, [], ◌∷◌, length, get_or, take, pos, ap, ◌∙◌, to_z-of_z, arith, rules}
use Rattle.std.specs.Int.{w64}
use Rattle.std.proofs.lemmas.List.{map-append, take_more}
use Rattle.std.proofs.lemmas.Option.{slice_get-get_or}
use Rattle.linear_form.specs.declared.form.Row.{Row}
use Rattle.linear_cert.specs.declared.rows.Column.TheVariants.{Variable}
use Rattle.linear_cert.specs.Columns.{entry, value_in}
use Rattle.linear_cert.proofs.Numbered.{numbered_below}
use Rattle.linear_solver.proofs.rows_at.column_of.Goals as goal

pub loop-number-preserved : goal.loop-number-preserved
loop-number-preserved c =
    let fits : FitsSigned w64 c.entry.result = search rules in
    let pushed = simp to_z-of_z at c.in_ok-push.ensures.items in
    let rows = c.args.rows.now in
    let number = c.loop-number.number in
    let none : Row = record { terms = []; bound = pos 0 } in
    let in_column = entry (Variable c.args.variable) in
    let below : number < length rows = omega arith in
    let named = numbered_below c.args.bounds.now rows number below ∙ slice_get-get_or rows number none below in
    let value = c.entry.ensures ∙ ap (value_in in_column) named in
    let more = take_more rows number none below in
    let parts = map-append in_column (take number rows) (get_or rows number none ∷ []) in
    record { front = cc; len = search rules }

-- Line after line.
use Rattle.std.proofs.Common.{◌<◌, ℕ, [], ap, length, map, sym, ◌∙◌, arith}
use Rattle.std.proofs.lemmas.List.{get_or-map, length-map}
use Rattle.std.proofs.lemmas.Result.{err_from_is_err_and}
use Rattle.sched_io.proofs.PutsLemmas.{puts_next, stops_here}
use Rattle.sched_report.proofs.printing.put_rows.Goals as goal

pub returns-in_err-put_all : goal.returns-in_err-put_all
returns-in_err-put_all g c =
    let fault = err_from_is_err_and c.from_residual.result c.from_residual.ensures.1 in
    let rows = c.args.rows.now in
    let at : ℕ = c.loop-row.row-index in
    let item = c.row-item.result in
    let inside : at < length rows = omega arith in
    let given = c.as_bytes.ensures ∙ c.line-line.ensures ∙ ap g.R.Row.text c.row-item.is ∙ sym (get_or-map g.R.Row.text rows at item [] inside) in
    rw fault.1 (stops_here (map g.R.Row.text rows) at _ _ _ (omega (arith, length-map rows g.R.Row.text)) c.loop-row.invariant (rw given at c.in_err-put_all.ensures))

pub loop-row-preserved : goal.loop-row-preserved
loop-row-preserved g c =
    let rows = c.args.rows.now in
    let at : ℕ = c.loop-row.row-index in
    let item = c.row-item.result in
    let inside : at < length rows = omega arith in
    let given = c.as_bytes.ensures ∙ c.line-line.ensures ∙ ap g.R.Row.text c.row-item.is ∙ sym (get_or-map g.R.Row.text rows at item [] inside) in
    puts_next (map g.R.Row.text rows) at _ _ _ (omega (arith, length-map rows g.R.Row.text)) c.loop-row.invariant (rw given at c.in_ok-put_all.ensures)

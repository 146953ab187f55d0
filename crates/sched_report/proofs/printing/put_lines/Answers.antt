-- Rounds, stretches, failed steals, and the totals.
use Rattle.std.proofs.Common.{◌++◌, map}
use Rattle.std.proofs.lemmas.Result.{err_from_is_err_and}
use Rattle.sched_io.proofs.PutsLemmas.{puts_both, stops_later, stops_sooner}
use Rattle.sched_report.proofs.Puttings.{puts_then}
use Rattle.sched_report.specs.Lines.{line_of_round, totals_lines}
use Rattle.sched_report.proofs.printing.put_lines.Goals as goal

pub returns-in_err-put_rows : goal.returns-in_err-put_rows
returns-in_err-put_rows g c =
    let fault = err_from_is_err_and c.from_residual.result c.from_residual.ensures.1 in
    let a = map line_of_round c.args.rounds.now in let b = map g.A.Row.text c.args.stretches.now in
    let d = map g.B.Row.text c.args.fails.now in let e = totals_lines c.args.totals.now in
    rw fault.1 (stops_sooner ((a ++ b) ++ d) e _ _ (stops_sooner (a ++ b) d _ _ (stops_sooner a b _ _ c.in_err-put_rows.ensures)))

pub returns-in_err-put_rows-2 : goal.returns-in_err-put_rows-2
returns-in_err-put_rows-2 g c =
    let fault = err_from_is_err_and c.from_residual-in_err-put_rows-2.result c.from_residual-in_err-put_rows-2.ensures.1 in
    let a = map line_of_round c.args.rounds.now in let b = map g.A.Row.text c.args.stretches.now in
    let d = map g.B.Row.text c.args.fails.now in let e = totals_lines c.args.totals.now in
    rw fault.1 (stops_sooner ((a ++ b) ++ d) e _ _ (stops_sooner (a ++ b) d _ _ (stops_later a b _ _ _ c.in_ok-put_rows.ensures c.in_err-put_rows-2.ensures)))

pub returns-in_err-put_rows-3 : goal.returns-in_err-put_rows-3
returns-in_err-put_rows-3 g c =
    let fault = err_from_is_err_and c.from_residual-in_err-put_rows-3.result c.from_residual-in_err-put_rows-3.ensures.1 in
    let a = map line_of_round c.args.rounds.now in let b = map g.A.Row.text c.args.stretches.now in
    let d = map g.B.Row.text c.args.fails.now in let e = totals_lines c.args.totals.now in
    rw fault.1 (stops_sooner ((a ++ b) ++ d) e _ _ (stops_later (a ++ b) d _ _ _ (puts_both a b _ _ _ c.in_ok-put_rows.ensures c.in_ok-put_rows-2.ensures) c.in_err-put_rows-3.ensures))

pub returns : goal.returns
returns g c =
    let a = map line_of_round c.args.rounds.now in let b = map g.A.Row.text c.args.stretches.now in
    let d = map g.B.Row.text c.args.fails.now in let e = totals_lines c.args.totals.now in
    puts_then ((a ++ b) ++ d) e c.print_totals.result _ _ _ (puts_both (a ++ b) d _ _ _ (puts_both a b _ _ _ c.in_ok-put_rows.ensures c.in_ok-put_rows-2.ensures) c.in_ok-put_rows-3.ensures) c.print_totals.ensures

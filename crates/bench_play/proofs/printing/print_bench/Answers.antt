-- The line of the threads, and then those of the totals.
use Rattle.std.proofs.Common.{[], ◌∷◌}
use Rattle.std.proofs.lemmas.Result.{err_from_is_err_and}
use Rattle.sched_io.proofs.PutsLemmas.{stops_sooner}
use Rattle.sched_report.proofs.Puttings.{puts_then}
use Rattle.sched_report.specs.Lines.{totals_lines}
use Rattle.bench_play.specs.Lines.{threads_line}
use Rattle.bench_play.proofs.printing.print_bench.Goals as goal

pub returns-in_err-put_all : goal.returns-in_err-put_all
returns-in_err-put_all g c =
    let fault = err_from_is_err_and c.from_residual.result c.from_residual.ensures.1 in
    let told = c.args.told.now in
    let stops = rw (c.as_bytes.ensures, c.threads_line.ensures) at c.in_err-put_all.ensures in
    rw fault.1 (stops_sooner (threads_line told.threads ∷ []) (totals_lines told.totals) _ _ stops)

pub returns : goal.returns
returns g c =
    let told = c.args.told.now in
    let first = rw (c.as_bytes.ensures, c.threads_line.ensures) at c.in_ok-put_all.ensures in
    puts_then (threads_line told.threads ∷ []) (totals_lines told.totals) c.print_totals.result _ _ _ first c.print_totals.ensures

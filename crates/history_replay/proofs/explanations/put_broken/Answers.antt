-- A line, and then the others.
use Rattle.std.proofs.Common.{[], ◌∷◌, ◌∙◌}
use Rattle.std.proofs.lemmas.Result.{err_from_is_err_and}
use Rattle.sched_io.proofs.PutsLemmas.{stops_sooner}
use Rattle.sched_report.proofs.Puttings.{puts_then}
use Rattle.history_reasons.specs.Lines.{legal_lines, reason_line}
use Rattle.history_replay.proofs.explanations.put_broken.Goals as goal

pub returns-in_err-put_all : goal.returns-in_err-put_all
returns-in_err-put_all g c =
    let fault = err_from_is_err_and c.from_residual.result c.from_residual.ensures.1 in
    let given = c.as_bytes.ensures ∙ c.to_line-line.ensures in
    rw fault.1 (stops_sooner ((reason_line c.args.reason.now) ∷ []) (legal_lines c.args.coming.now) _ _ (rw given at c.in_err-put_all.ensures))

pub returns : goal.returns
returns g c =
    let given = c.as_bytes.ensures ∙ c.to_line-line.ensures in
    puts_then ((reason_line c.args.reason.now) ∷ []) (legal_lines c.args.coming.now) c.print_coming.result _ _ _ (rw given at c.in_ok-put_all.ensures) c.print_coming.ensures

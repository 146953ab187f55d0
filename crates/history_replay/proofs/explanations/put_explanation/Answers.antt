-- A line, and then the others.
use Rattle.std.proofs.Common.{[], ◌∷◌, ◌∙◌}
use Rattle.std.proofs.lemmas.Result.{err_from_is_err_and}
use Rattle.sched_io.proofs.PutsLemmas.{stops_sooner}
use Rattle.sched_report.proofs.Puttings.{puts_then}
use Rattle.history_reasons.specs.Lines.{why_lines}
use Rattle.history_replay.specs.Lines.{judgement_line}
use Rattle.history_replay.proofs.explanations.put_explanation.Goals as goal

pub returns-in_err-put_all : goal.returns-in_err-put_all
returns-in_err-put_all g c =
    let fault = err_from_is_err_and c.from_residual.result c.from_residual.ensures.1 in
    let given = c.as_bytes.ensures ∙ c.judgement_line-line.ensures in
    rw fault.1 (stops_sooner ((judgement_line c.args.explanation.now) ∷ []) (why_lines c.args.explanation.now) _ _ (rw given at c.in_err-put_all.ensures))

pub returns : goal.returns
returns g c =
    let given = c.as_bytes.ensures ∙ c.judgement_line-line.ensures in
    puts_then ((judgement_line c.args.explanation.now) ∷ []) (why_lines c.args.explanation.now) c.put_why.result _ _ _ (rw given at c.in_ok-put_all.ensures) c.put_why.ensures

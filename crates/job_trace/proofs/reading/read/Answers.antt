use Rattle.std.proofs.Common.{◌∙◌, Ok, ap, sym, arith}
use Rattle.std.proofs.lemmas.Result.{err_from_is_err_and}
use Rattle.job_trace.specs.Code.Steps.{scan}
use Rattle.job_trace.proofs.ScanLemmas.{added-rules, scan-more, scan-short, scan-stops, scan-whole}
use Rattle.job_trace.proofs.reading.read.Goals as goal

pub returns-in_err-add_line : goal.returns-in_err-add_line
returns-in_err-add_line c =
    let p = err_from_is_err_and c.from_residual.result c.from_residual.ensures.1 in
    let here = c.loop-line.invariant.same ∙ ap (scan c.loop-line.lines.items c.loop-line.number) c.in-Some.ensures.line in
    rw (p.1, p.2) (rw here (scan-stops _ _ _ _ _ c.in_err-add_line.ensures.adds))

pub loop-line-preserved : goal.loop-line-preserved
loop-line-preserved c =
    let here = c.loop-line.invariant.same ∙ ap (scan c.loop-line.lines.items c.loop-line.number) c.in-Some.ensures.line in
    let kept = added-rules _ _ _ _ c.loop-line.invariant.cores c.in_ok-add_line.ensures.adds c.loop-line.invariant.rules in
    record {
      same = here ∙ scan-more _ _ _ _ _ c.in_ok-add_line.ensures.adds;
      counted = omega (arith, c.in-Some.ensures.shorter);
      few = omega (arith, c.in_ok-add_line.ensures.few);
      rules = kept.0;
      cores = kept.1;
      gifts = c.in_ok-add_line.ensures.gives;
    }

pub returns-then-len-lt2 : goal.returns-then-len-lt2
returns-then-len-lt2 c =
    c.loop-line.invariant.same ∙ ap (scan c.loop-line.lines.items c.loop-line.number) c.in_default.ensures.none
    ∙ scan-short _ _ (omega (arith, c.loop-line.lines.ok.0))

pub returns : goal.returns
returns c =
    c.loop-line.invariant.same ∙ ap (scan c.loop-line.lines.items c.loop-line.number) c.in_default.ensures.none
    ∙ scan-whole _ _ (omega (arith, c.loop-line.lines.ok.0)) ∙ ap Ok (sym (c.from_lines.ensures ∙ c.from_vec.ensures))

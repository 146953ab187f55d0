use Rattle.std.proofs.Common.{◌∙◌, ap, subst, sym, List, ℕ}
use Rattle.std.proofs.lemmas.List.{take_all}
use Rattle.job_trace.specs.Rules.{KeepsRules}
use Rattle.job_trace.specs.TraceText.{SpellsTrace}
use Rattle.trace_printer.specs.Printed.{renumbered, trace_text}
use Rattle.trace_printer.proofs.ReadAgain.{read-again}
use Rattle.trace_printer.proofs.printing.print_trace.Goals as goal

pub returns-clause-again : goal.returns-clause-again
returns-clause-again c =
    let all = take_all c.loop-numbered.numbered-index c.lines-numbered-items.result.now c.loop-numbered-test.false in
    let text = c.loop-numbered.invariant ∙ ap trace_text (all ∙ c.lines-numbered-items.ensures.lines) in
    subst (λ (bytes : List ℕ). SpellsTrace bytes (renumbered 1 c.args.trace.now)) (sym text)
    (read-again c.args.trace.now
    (subst KeepsRules c.lines-numbered-items.ensures.lines c.lines-numbered-items.ensures.rules))

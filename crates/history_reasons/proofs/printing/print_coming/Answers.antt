-- Line after line.
use Rattle.std.proofs.Common.{◌<◌, ℕ, List, [], ap, length, subst, sym, ◌∙◌, arith, get_or}
use Rattle.std.proofs.lemmas.List.{get_or-map, length-map}
use Rattle.std.proofs.lemmas.Result.{err_from_is_err_and}
use Rattle.round_model.specs.declared.entry.Entry.{Entry}
use Rattle.sched_history.specs.Ranges.{IsPrintableFrom}
use Rattle.sched_io.proofs.PutsLemmas.{puts_next, stops_here}
use Rattle.history_reasons.specs.Lines.{legal_line, legal_lines}
use Rattle.history_reasons.proofs.printing.print_coming.Goals as goal

pub legal_line-line-requires : goal.legal_line-line-requires
legal_line-line-requires g c =
    let entries = c.args.coming.now.entries in let at : ℕ = c.loop-entry.entry-index in let e = c.entry-item.result in
    let same = c.as_slice-entry-items.ensures.items in
    let inside : at < length entries = omega (arith, ap length same) in
    subst (λ (x : Entry). IsPrintableFrom c.args.coming.now.start x) (sym (c.entry-item.is ∙ ap (λ (xs : List Entry). get_or xs at e) same)) (c.requires at e inside)

pub returns-in_err-put_all : goal.returns-in_err-put_all
returns-in_err-put_all g c =
    let fault = err_from_is_err_and c.from_residual.result c.from_residual.ensures.1 in
    let entries = c.args.coming.now.entries in let start = c.args.coming.now.start in
    let at : ℕ = c.loop-entry.entry-index in let e = c.entry-item.result in
    let same = c.as_slice-entry-items.ensures.items in
    let inside : at < length entries = omega (arith, ap length same) in
    let given = c.as_bytes.ensures ∙ c.legal_line-line.ensures ∙ ap (legal_line start) (c.entry-item.is ∙ ap (λ (xs : List Entry). get_or xs at e) same) ∙ sym (get_or-map (legal_line start) entries at e [] inside) in
    rw fault.1 (stops_here (legal_lines c.args.coming.now) at _ _ _ (omega (arith, length-map entries (legal_line start))) c.loop-entry.invariant (rw given at c.in_err-put_all.ensures))

pub loop-entry-preserved : goal.loop-entry-preserved
loop-entry-preserved g c =
    let entries = c.args.coming.now.entries in let start = c.args.coming.now.start in
    let at : ℕ = c.loop-entry.entry-index in let e = c.entry-item.result in
    let same = c.as_slice-entry-items.ensures.items in
    let inside : at < length entries = omega (arith, ap length same) in
    let given = c.as_bytes.ensures ∙ c.legal_line-line.ensures ∙ ap (legal_line start) (c.entry-item.is ∙ ap (λ (xs : List Entry). get_or xs at e) same) ∙ sym (get_or-map (legal_line start) entries at e [] inside) in
    puts_next (legal_lines c.args.coming.now) at _ _ _ (omega (arith, length-map entries (legal_line start))) c.loop-entry.invariant (rw given at c.in_ok-put_all.ensures)

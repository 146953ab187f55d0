-- The header, and then line after line.
use Rattle.std.proofs.Common.{◌+◌, ◌<◌, ℕ, cond, length, take, sym, subst, ◌∙◌, ap, ap₂, arith}
use Rattle.std.proofs.lemmas.Result.{err_from_is_err_and}
use Rattle.round_model.specs.declared.entry.Entry.{Entry}
use Rattle.round_model.specs.Kinds.{is_round}
use Rattle.round_model.specs.Reads.{round_start}
use Rattle.sched_io.proofs.PutsLemmas.{puts_next, puts_none, puts_whole, stops_here}
use Rattle.sched_history.specs.Ranges.{IsPrintableFrom}
use Rattle.sched_history.specs.Spelling.{line_from, lines_of_history}
use Rattle.sched_history.proofs.Writing.{count_lines, printable_at, start_next, written_line}
use Rattle.sched_history.proofs.printing.put_history.Goals as goal

pub returns-in_err-put_header : goal.returns-in_err-put_header
returns-in_err-put_header g c =
    let lines = lines_of_history c.args.cores c.args.entries.now in
    let fault = err_from_is_err_and c.from_residual.result c.from_residual.ensures.1 in
    rw fault.1 (stops_here lines 0 _ _ _ (omega (arith, count_lines c.args.cores c.args.entries.now)) (puts_none (g.S.Sink.shown c.args.out.now)) c.in_err-put_header.ensures)

pub put_entry-requires : goal.put_entry-requires
put_entry-requires g c =
    let entries = c.args.entries.now in let at : ℕ = c.loop-entry.entry-index in let e = c.entry-item.result in
    let inside : at < length entries = omega arith in
    subst (λ (n : ℕ). IsPrintableFrom n e) (sym c.loop-entry.invariant.start)
    (subst (λ (x : Entry). IsPrintableFrom (round_start (take at entries)) x) (sym c.entry-item.is) (printable_at c.args.cores entries at e inside c.requires.printable.lines))

pub returns-in_err-put_entry : goal.returns-in_err-put_entry
returns-in_err-put_entry g c =
    let entries = c.args.entries.now in let at : ℕ = c.loop-entry.entry-index in let e = c.entry-item.result in
    let inside : at < length entries = omega arith in
    let fault = err_from_is_err_and c.from_residual-in_err-put_entry.result c.from_residual-in_err-put_entry.ensures.1 in
    let given = ap₂ (λ (n : ℕ) (x : Entry). line_from n x) c.loop-entry.invariant.start c.entry-item.is ∙ sym (written_line c.args.cores entries at e inside) in
    rw fault.1 (stops_here (lines_of_history c.args.cores entries) (at + 1) _ _ _ (omega (arith, inside, count_lines c.args.cores entries)) c.loop-entry.invariant.written (rw given at c.in_err-put_entry.ensures))

pub loop-entry-preserved : goal.loop-entry-preserved
loop-entry-preserved g c =
    let entries = c.args.entries.now in let at : ℕ = c.loop-entry.entry-index in let e = c.entry-item.result in
    let inside : at < length entries = omega arith in let now = c.loop-entry.invariant in
    let given = ap₂ (λ (n : ℕ) (x : Entry). line_from n x) now.start c.entry-item.is ∙ sym (written_line c.args.cores entries at e inside) in
    record {
      start = c.start_behind-start.ensures
          ∙ (ap₂ (λ (n k : ℕ). cond (is_round e) (n + 1) k) now.count now.start
          ∙ (ap (λ (x : Entry). cond (is_round x) (at + 1) (round_start (take at entries))) c.entry-item.is
          ∙ sym (start_next entries at e inside)));
      count = ap (λ (n : ℕ). n + 1) now.count;
      written = puts_next (lines_of_history c.args.cores entries) (at + 1) _ _ _ (omega (arith, inside, count_lines c.args.cores entries)) now.written (rw given at c.in_ok-put_entry.ensures);
    }

pub returns : goal.returns
returns g c =
    let entries = c.args.entries.now in let over = c.loop-entry-test.false in
    puts_whole (lines_of_history c.args.cores entries) (c.loop-entry.entry-index + 1) _ _ (omega (arith, over, count_lines c.args.cores entries)) c.loop-entry.invariant.written

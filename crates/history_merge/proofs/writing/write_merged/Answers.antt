-- The header, and then line after line.
use Rattle.std.proofs.Common.{◌≡◌, ◌+◌, ℕ, cond, List, [], ◌∷◌, length, take, slice_get, Some, sym, subst, ◌∙◌, ap, ap₂, refl, arith}
use Rattle.std.proofs.lemmas.Option.{get_or_from_slice_get, slice_get_within}
use Rattle.std.proofs.lemmas.Result.{err_from_is_err_and}
use Rattle.round_model.specs.declared.entry.Entry.{Entry}
use Rattle.round_model.specs.Kinds.{is_round}
use Rattle.round_model.specs.Reads.{round_start}
use Rattle.core_state.specs.Views.{ClosedView}
use Rattle.sched_io.specs.Puts.{WritesAll, WritesPart}
use Rattle.sched_io.proofs.PutsLemmas.{puts_next, puts_none, puts_whole, stops_here}
use Rattle.sched_history.specs.Ranges.{IsPrintableFrom}
use Rattle.sched_history.specs.Spelling.{header, line_from, lines_of_history}
use Rattle.sched_history.proofs.Writing.{count_lines, printable_at, start_next, written_line}
use Rattle.history_merge.specs.Code.Moves.{lent}
use Rattle.history_merge.specs.Merged.{CanBeWritten, merged}
use Rattle.history_merge.proofs.MergedLists.{merged_history}
use Rattle.history_merge.proofs.Walks.{none_beyond}
use Rattle.history_merge.proofs.writing.write_merged.Goals as goal

same : (closed : ClosedView) (can : CanBeWritten closed) → merged closed ≡ can.logs.0
same closed can = merged_history closed can.logs.0 can.logs.1

pub put_header-requires : goal.put_header-requires
put_header-requires g c = rw c.cores.ensures.count c.requires.count

pub returns-in_err-put_header-clause-lines : goal.returns-in_err-put_header-clause-lines
returns-in_err-put_header-clause-lines g c =
    let lines = lines_of_history (length c.args.closed.now.cores) (merged c.args.closed.now) in
    let fault = err_from_is_err_and c.from_residual.result c.from_residual.ensures.1 in
    rw fault.1 (stops_here lines 0 _ _ _ (omega (arith, count_lines (length c.args.closed.now.cores) (merged c.args.closed.now))) (puts_none (g.S.Sink.shown c.args.out.now))
    (subst (λ (n : ℕ). WritesPart (header n ∷ []) (g.S.Sink.shown c.args.out.now) (g.S.Sink.shown c.put_header.new.out)) c.cores.ensures.count c.in_err-put_header.ensures))

pub overflow_cast-count : goal.overflow_cast-count
overflow_cast-count g c =
    let can = c.requires in let counts = c.entry_count-count.ensures can.logs.0 can.logs.1 in let few = can.logs.2 in omega arith

pub loop-at-init : goal.loop-at-init
loop-at-init g c = record { stand = c.start-cursors.ensures c.args.closed.now; start = refl; written = subst (λ (n : ℕ). WritesAll (header n ∷ []) (g.S.Sink.shown c.args.out.now) (g.S.Sink.shown c.put_header.new.out)) c.cores.ensures.count c.in_ok-put_header.ensures }

pub unreachable-requires : goal.unreachable-requires
unreachable-requires g c =
    let one = c.requires.logs in
    let none = sym (c.lend_entry.ensures.entry one.0 one.1) ∙ ap lent c.in_default.is in
    let beyond = none_beyond one.0 c.loop-at.at none in
    let counts = c.entry_count-count.ensures one.0 one.1 in
    let less = c.loop-at-test.true in omega arith

-- the entry that was found stands in that place of the history
found : (history other : List Entry) (at : ℕ) (e : Entry) → history ≡ other → slice_get other at ≡ Some e → slice_get history at ≡ Some e
found history other at e is there = ap (λ h. slice_get h at) is ∙ there

pub put_entry-requires : goal.put_entry-requires
put_entry-requires g c =
    let history = merged c.args.closed.now in let at : ℕ = c.loop-at.at in let e = c.in-Some.entry.now in let one = c.requires.logs in
    let there = found history one.0 at e (same c.args.closed.now c.requires) (sym (c.lend_entry.ensures.entry one.0 one.1) ∙ ap lent c.in-Some.is) in
    let is = get_or_from_slice_get history at e e there in
    subst (λ (n : ℕ). IsPrintableFrom n e) (sym c.loop-at.invariant.start)
    (subst (λ (x : Entry). IsPrintableFrom (round_start (take at history)) x) is (printable_at (length c.args.closed.now.cores) history at e (slice_get_within history at e there) c.requires.lines))

pub returns-in_err-put_entry-clause-lines : goal.returns-in_err-put_entry-clause-lines
returns-in_err-put_entry-clause-lines g c =
    let history = merged c.args.closed.now in let at : ℕ = c.loop-at.at in let e = c.in-Some.entry.now in let one = c.requires.logs in
    let there = found history one.0 at e (same c.args.closed.now c.requires) (sym (c.lend_entry.ensures.entry one.0 one.1) ∙ ap lent c.in-Some.is) in
    let inside = slice_get_within history at e there in
    let fault = err_from_is_err_and c.from_residual-in_err-put_entry.result c.from_residual-in_err-put_entry.ensures.1 in
    let given = ap₂ (λ (n : ℕ) (x : Entry). line_from n x) c.loop-at.invariant.start (sym (get_or_from_slice_get history at e e there)) ∙ sym (written_line (length c.args.closed.now.cores) history at e inside) in
    rw fault.1 (stops_here (lines_of_history (length c.args.closed.now.cores) history) (at + 1) _ _ _ (omega (arith, inside, count_lines (length c.args.closed.now.cores) history)) c.loop-at.invariant.written (rw given at c.in_err-put_entry.ensures))

pub loop-at-preserved : goal.loop-at-preserved
loop-at-preserved g c =
    let history = merged c.args.closed.now in let at : ℕ = c.loop-at.at in let e = c.in-Some.entry.now in let one = c.requires.logs in
    let there = found history one.0 at e (same c.args.closed.now c.requires) (sym (c.lend_entry.ensures.entry one.0 one.1) ∙ ap lent c.in-Some.is) in
    let inside = slice_get_within history at e there in
    let is = sym (get_or_from_slice_get history at e e there) in let now = c.loop-at.invariant in
    let given = ap₂ (λ (n : ℕ) (x : Entry). line_from n x) now.start is ∙ sym (written_line (length c.args.closed.now.cores) history at e inside) in
    record {
      stand = c.lend_entry.ensures.stand;
      start = c.start_behind-start.ensures
          ∙ (ap₂ (λ (n : ℕ) (x : Entry). cond (is_round x) (at + 1) n) now.start is
          ∙ sym (start_next history at e inside));
      written = puts_next (lines_of_history (length c.args.closed.now.cores) history) (at + 1) _ _ _ (omega (arith, inside, count_lines (length c.args.closed.now.cores) history)) now.written (rw given at c.in_ok-put_entry.ensures);
    }

pub returns-clause-lines : goal.returns-clause-lines
returns-clause-lines g c =
    let closed = c.args.closed.now in let can = c.requires in let history = merged closed in
    let counts = c.entry_count-count.ensures can.logs.0 can.logs.1 in let is = ap length (same closed can) in
    let over = c.loop-at-test.false in
    puts_whole (lines_of_history (length c.args.closed.now.cores) history) (c.loop-at.at + 1) _ _ (omega (arith, counts, is, over, count_lines (length c.args.closed.now.cores) history)) c.loop-at.invariant.written

pub returns-clause-count : goal.returns-clause-count
returns-clause-count g c =
    let can = c.requires in
    c.entry_count-count.ensures can.logs.0 can.logs.1 ∙ sym (ap length (same c.args.closed.now can))

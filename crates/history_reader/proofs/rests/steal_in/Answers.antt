use Rattle.history_reader.proofs.Behind.{no_from, no_reads, no_threads}
use Rattle.history_reader.proofs.rests.steal_in.Goals as goal

pub returns-in_err-from : goal.returns-in_err-from
returns-in_err-from c = rw c.from_residual-in_err-from.ensures
    (no_from c.args.form c.args.text.now _ _ c.in_ok-by.ensures c.in_err-from.ensures)

pub returns-then-is_empty : goal.returns-then-is_empty
returns-then-is_empty c =
    no_threads c.args.form c.args.text.now _ _ _ _ _ _ c.in_ok-by.ensures c.in_ok-from.ensures c.threads_at-threads.ensures (c.is_empty.ensures.0 c.if-is_empty.true)

pub returns-in_err-reads : goal.returns-in_err-reads
returns-in_err-reads c =
    rw c.from_residual-in_err-reads.ensures (no_reads c.args.form c.args.text.now _ _ _ _ _ _ c.in_ok-by.ensures
    c.in_ok-from.ensures c.threads_at-threads.ensures c.in_err-reads.ensures)

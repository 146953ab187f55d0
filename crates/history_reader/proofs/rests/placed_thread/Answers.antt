use Rattle.history_reader.proofs.Behind.{no_placed_at, no_placed_by, no_placement}
use Rattle.history_reader.proofs.rests.placed_thread.Goals as goal

pub returns-in_err-by : goal.returns-in_err-by
returns-in_err-by c = rw c.from_residual-in_err-by.ensures
    (no_placed_by c.args.form c.args.text.now _ _ c.in_ok-thread.ensures c.in_err-by.ensures)

pub returns-in_err-at : goal.returns-in_err-at
returns-in_err-at c = rw c.from_residual-in_err-at.ensures
    (no_placed_at c.args.form c.args.text.now _ _ c.in_ok-thread.ensures _ _ c.in_ok-by.ensures c.in_err-at.ensures)

pub returns-in_err-reads : goal.returns-in_err-reads
returns-in_err-reads c = rw c.from_residual-in_err-reads.ensures
    (no_placement c.args.form c.args.text.now _ _ c.in_ok-thread.ensures _ _ c.in_ok-by.ensures _ _ c.in_ok-at.ensures c.in_err-reads.ensures)

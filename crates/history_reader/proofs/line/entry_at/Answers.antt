use Rattle.history_reader.proofs.Behind.{no_line}
use Rattle.history_reader.proofs.line.entry_at.Goals as goal

pub returns-in_err-entry : goal.returns-in_err-entry
returns-in_err-entry c = rw c.from_residual-in_err-entry.ensures
    (no_line c.args.form c.args.text.now _ _ c.in_ok-line.ensures c.in_err-entry.ensures)

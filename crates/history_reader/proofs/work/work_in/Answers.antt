use Rattle.history_reader.proofs.Behind.{no_did}
use Rattle.history_reader.proofs.work.work_in.Goals as goal

pub returns-in_err-did : goal.returns-in_err-did
returns-in_err-did c = rw c.from_residual-in_err-did.ensures
    (no_did c.args.form c.args.text.now _ _ c.in_ok-by.ensures c.in_err-did.ensures)

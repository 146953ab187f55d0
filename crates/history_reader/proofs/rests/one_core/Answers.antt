use Rattle.history_reader.proofs.Behind.{after_core}
use Rattle.history_reader.proofs.ReadsTexts.{starts_reads}
use Rattle.history_reader.proofs.rests.one_core.Goals as goal

pub returns-in_err-reads : goal.returns-in_err-reads
returns-in_err-reads c =
    rw c.from_residual-in_err-reads.ensures (λ by reads is. c.in_err-reads.ensures reads is.0.1
    (after_core c.args.form c.args.text.now _ _ _ by c.in_ok-by.ensures is.0.0 (starts_reads c.args.form reads) is.1))

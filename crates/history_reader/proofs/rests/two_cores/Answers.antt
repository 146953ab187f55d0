use Rattle.std.proofs.Common.{refl}
use Rattle.history_reader.proofs.Behind.{after_core}
use Rattle.history_reader.proofs.rests.two_cores.Goals as goal

pub returns-in_err-from : goal.returns-in_err-from
returns-in_err-from c =
    rw c.from_residual-in_err-from.ensures (λ by from reads is. c.in_err-from.ensures from reads
    ((is.0.1, is.0.2), after_core c.args.form c.args.text.now _ _ _ by c.in_ok-by.ensures is.0.0 refl is.1))

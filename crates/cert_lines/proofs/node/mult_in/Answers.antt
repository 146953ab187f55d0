use Rattle.std.proofs.Common.{decimal}
use Rattle.cert_lines.proofs.Words.{nowhere, word_parts}
use Rattle.cert_lines.proofs.node.mult_in.Goals as goal

pub returns-in_err-row : goal.returns-in_err-row
returns-in_err-row c = rw c.from_residual.ensures (λ mult is same. nowhere 58 c.args.word.now (decimal mult.row) (decimal mult.by) c.in_err-row.ensures same)

pub returns-in_err-row-2 : goal.returns-in_err-row-2
returns-in_err-row-2 c = rw c.from_residual-in_err-row-2.ensures (λ mult is same. c.in_err-row-2.ensures mult.row is.row (word_parts c.args.word.now _ _ mult c.in_ok-row.ensures is same).0)

pub returns-in_err-by : goal.returns-in_err-by
returns-in_err-by c = rw c.from_residual-in_err-by.ensures (λ mult is same. c.in_err-by.ensures mult.by is.by (word_parts c.args.word.now _ _ mult c.in_ok-row.ensures is same).1)

use Rattle.history_reader.specs.Code.Kinds.{kind_of}
use Rattle.history_reader.proofs.Behind.{by_rest}
use Rattle.history_reader.proofs.Entries.{line_parts}
use Rattle.history_reader.proofs.line.entry_in.Goals as goal

pub returns-in_err-kind : goal.returns-in_err-kind
returns-in_err-kind c =
    let cut = c.front.ensures in
    rw c.from_residual.ensures (λ e is. c.in_err-kind.ensures (kind_of e)
    (line_parts c.args.form c.args.line.now _ _ e cut.whole cut.front cut.rest is.1).0)

pub returns : goal.returns
returns c =
    let cut = c.front.ensures in
    by_rest c.args.form c.args.line.now _ _ _ _ cut.whole cut.front cut.rest c.in_ok-kind.ensures c.entry_of.ensures

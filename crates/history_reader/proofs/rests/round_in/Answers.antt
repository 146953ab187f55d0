use Rattle.std.proofs.Common.{◌<◌, length, arith}
use Rattle.std.proofs.lemmas.Grind.{common_steps}
use Rattle.history_reader.proofs.Behind.{more_behind, no_round}
use Rattle.history_reader.proofs.rests.round_in.Goals as goal

pub returns-in_err-number : goal.returns-in_err-number
returns-in_err-number c = rw c.from_residual.ensures (no_round c.args.form c.args.text.now c.in_err-number.ensures)

pub returns-else-is_empty : goal.returns-else-is_empty
returns-else-is_empty c =
    let some : 0 < length c.in_ok-number.rest.now =
    grind (arith, common_steps, c.is_empty.ensures, c.if-is_empty.false) in
    more_behind c.args.form c.args.text.now _ _ c.in_ok-number.ensures some

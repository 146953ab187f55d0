use Rattle.std.proofs.Common.{◌≢◌, [], length, ap, arith}
use Rattle.std.proofs.lemmas.Grind.{common_steps}
use Rattle.cert_lines.proofs.BadLines.{fails_behind}
use Rattle.cert_lines.proofs.reading.read_whole.Goals as goal

pub returns-else-is_empty-clause-fault : goal.returns-else-is_empty-clause-fault
returns-else-is_empty-clause-fault c =
    let some : c.read_part.new.rest.bytes.now ≢ [] = λ none. grind (arith, common_steps, c.is_empty.ensures, c.if-is_empty.false, ap length none) in
    fails_behind c.args.text.now _ _ _ c.in_ok-cert.ensures.part some

use Rattle.std.proofs.Common.{decimal, length, ap, arith}
use Rattle.std.proofs.lemmas.Fmt.{length-decimal-le}
use Rattle.std.proofs.lemmas.List.{length-append}
use Rattle.history_reasons.proofs.printing.numbered.Goals as goal

pub add-requires-2 : goal.add-requires-2
add-requires-2 c =
    let digits = length-decimal-le 20 c.from.result (omega arith) (omega arith) (omega (arith, c.from.type_inv)) in
    omega (
      arith,
      digits,
      ap length c.add_number.ensures,
      ap length c.add.ensures,
      ap length c.new-line.ensures,
      length-append c.add.new.self (decimal c.from.result),
      length-append c.new-line.result c.args.front.now,
    )

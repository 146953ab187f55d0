-- A number takes 20 bytes at most.
use Rattle.std.proofs.Common.{ap, arith, length}
use Rattle.std.specs.Prelude.{decimal}
use Rattle.std.proofs.lemmas.Fmt.{length-decimal-le}
use Rattle.std.proofs.lemmas.List.{length-append}
use Rattle.history_reasons.proofs.printing.add_named.Goals as goal

pub returns-clause-small : goal.returns-clause-small
returns-clause-small c =
    let number = c.from.result in
    let digits = length-decimal-le 20 number (omega arith) (omega (arith, c.from.type_inv)) (omega (arith, c.from.type_inv)) in
    omega (arith, digits, c.requires.short, ap length c.add.ensures, ap length c.add_number.ensures, length-append c.args.line.now c.args.word.now, length-append c.add.new.self (decimal number))

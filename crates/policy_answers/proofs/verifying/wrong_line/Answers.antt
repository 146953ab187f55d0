-- The line fits.
use Rattle.std.proofs.Common.{◌≤◌, codes, length, length-append, ap, arith}
use Rattle.policy_answers.proofs.NumberedLines.{with_number}
use Rattle.policy_answers.proofs.verifying.wrong_line.Goals as goal

pub add-requires-4 : goal.add-requires-4
add-requires-4 c =
    let front : length c.add.new.self ≤ 6 = omega (arith, ap length c.add.ensures, ap length c.new-line.ensures, length-append c.new-line.result (codes "wrong ")) in
    let before : length c.add-3.new.self ≤ 64 =
    omega (
      arith,
      front,
      ap length c.add-3.ensures,
      length-append c.add-2.new.self (codes " "),
      ap length c.add-2.ensures,
      length-append c.add.new.self c.as_bytes.result.now,
      ap length c.as_bytes.ensures.value,
      c.text.ensures.short,
    ) in
    let number = with_number c.add-3.new.self c.from.result 64 before (omega (arith, c.from.type_inv)) in
    omega (arith, number, ap length c.add_number.ensures)

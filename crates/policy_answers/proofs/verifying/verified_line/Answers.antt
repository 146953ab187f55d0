-- The line fits.
use Rattle.std.proofs.Common.{◌≤◌, codes, length, length-append, ap, arith}
use Rattle.policy_answers.proofs.NumberedLines.{with_number}
use Rattle.policy_answers.proofs.verifying.verified_line.Goals as goal

pub add-requires-2 : goal.add-requires-2
add-requires-2 c =
    let before : length c.add.new.self ≤ 9 = omega (arith, ap length c.add.ensures, ap length c.new-line.ensures, length-append c.new-line.result (codes "verified ")) in
    let number = with_number c.add.new.self c.from.result 9 before (omega (arith, c.from.type_inv)) in
    omega (arith, number, ap length c.add_number.ensures)

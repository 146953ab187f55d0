-- The line of a fault fits.
use Rattle.std.proofs.Common.{◌<◌, ◌≤◌, ◌^◌, ℕ, List, ◌++◌, codes, length, ap, arith}
use Rattle.std.specs.Prelude.{decimal}
use Rattle.std.proofs.lemmas.Fmt.{length-decimal-le}
use Rattle.std.proofs.lemmas.List.{length-append}
use Rattle.policy_reader.specs.declared.fault.FaultKind.{FaultKind}
use Rattle.policy_reader.specs.declared.fault.FaultKind.TheVariants as kind
use Rattle.policy_reader.specs.Lines.{word_of}
use Rattle.policy_answers.proofs.lines.line_of_fault.Goals as goal

-- a fault's word is short
word_short : (k : FaultKind) → length (word_of k) ≤ 11
word_short kind.NotAscii = omega arith
word_short kind.BadByte = omega arith
word_short kind.LongName = omega arith
word_short kind.WideNumber = omega arith
word_short kind.Unexpected = omega arith
word_short kind.Deep = omega arith
word_short kind.Many = omega arith
word_short kind.Unknown = omega arith
word_short kind.Twice = omega arith
word_short kind.NotLinear = omega arith
word_short kind.NotHere = omega arith
word_short kind.BadRange = omega arith
word_short kind.Big = omega arith

-- what stands in the line behind the number
behind_number : (line : List ℕ) (n : ℕ) → length line ≤ 7 → n < 2 ^ 64 → length (line ++ decimal n) ≤ 27
behind_number line n short small = omega (arith, length-append line (decimal n), length-decimal-le 20 n (omega arith) (omega arith) small)

pub add-requires-2 : goal.add-requires-2
add-requires-2 c =
    let number = behind_number c.add.new.self c.from.result (omega (arith, ap length c.add.ensures, ap length c.new-line.ensures, length-append c.new-line.result (codes "policy "))) (omega (arith, c.from.type_inv)) in
    omega (arith, ap length c.add_number.ensures)

pub add-requires-3 : goal.add-requires-3
add-requires-3 c =
    let number = behind_number c.add.new.self c.from.result (omega (arith, ap length c.add.ensures, ap length c.new-line.ensures, length-append c.new-line.result (codes "policy "))) (omega (arith, c.from.type_inv)) in
    let word = word_short c.args.fault.now.kind in
    omega (arith, ap length c.add_number.ensures, ap length c.add-2.ensures, length-append c.add_number.new.self (codes " "), ap length c.as_bytes.ensures.value, ap length c.word.ensures)

pub add-requires-4 : goal.add-requires-4
add-requires-4 c =
    let number = behind_number c.add.new.self c.from.result (omega (arith, ap length c.add.ensures, ap length c.new-line.ensures, length-append c.new-line.result (codes "policy "))) (omega (arith, c.from.type_inv)) in
    let word = word_short c.args.fault.now.kind in
    omega (arith, ap length c.add_number.ensures, ap length c.add-2.ensures, length-append c.add_number.new.self (codes " "), ap length c.add-3.ensures, length-append c.add-2.new.self c.as_bytes.result.now, ap length c.as_bytes.ensures.value, ap length c.word.ensures)

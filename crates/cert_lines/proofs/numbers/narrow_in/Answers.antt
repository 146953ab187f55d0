use Rattle.std.proofs.Common.{◌≡◌, sym, ◌∙◌, arith, rules}
use Rattle.std.proofs.lemmas.Fmt.{decimal_injective}
use Rattle.cert_lines.proofs.numbers.narrow_in.Goals as goal

pub returns-else-number-from : goal.returns-else-number-from
returns-else-number-from c n lt same =
    let number : c.in_ok-number.number ≡ n = decimal_injective c.in_ok-number.number n (search rules) (omega arith) (sym c.in_ok-number.ensures ∙ same) in
    omega (arith, c.from.ensures, c.if-number-from.false, number)

-- The line is that of a system, or of none.
use Rattle.std.proofs.Common.{sym, ◌∙◌, arith}
use Rattle.std.proofs.lemmas.Fmt.{decimal_injective}
use Rattle.cert_file.proofs.Words.{behind_system, no_system}
use Rattle.cert_file.proofs.lines.length_in.Goals as goal

pub returns-in_err-digits : goal.returns-in_err-digits
returns-in_err-digits c =
    rw c.from_residual.ensures (λ lines some lt same. no_system c.args.line.now c.as_slice.result.now lines c.as_slice.ensures c.in_err-digits.ensures same)

pub returns-then-lines-eq0 : goal.returns-then-lines-eq0
returns-then-lines-eq0 c = λ lines some lt same.
    let own = behind_system c.args.line.now c.as_slice.result.now c.in_ok-digits.digits.now lines c.as_slice.ensures c.in_ok-digits.ensures same in
    let number = decimal_injective c.in_ok-lines.lines lines (omega (arith, c.if-lines-eq0.true)) lt (sym c.in_ok-lines.ensures ∙ own) in
    omega (arith, c.if-lines-eq0.true, number, some)

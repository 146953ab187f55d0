-- The line is that of the obligation, or of none.
use Rattle.cert_file.proofs.Words.{no_obligation, no_space}
use Rattle.cert_file.proofs.lines.count_in.Goals as goal

pub returns-in_err-word : goal.returns-in_err-word
returns-in_err-word c =
    rw c.from_residual.ensures (λ systems lt same. no_obligation c.args.line.now c.as_slice.result.now c.args.name systems c.as_slice.ensures c.in_err-word.ensures same)

pub returns-in_err-digits : goal.returns-in_err-digits
returns-in_err-digits c =
    rw c.from_residual-in_err-digits.ensures (λ systems lt same.
    no_space c.args.line.now c.as_slice.result.now c.in_ok-word.word.now c.as_bytes.result.now c.in_ok-space.space.now c.as_slice-2.result.now c.args.name systems c.as_slice.ensures c.in_ok-word.ensures
    c.text.result.now c.text.ensures.text c.as_bytes.ensures.value c.in_ok-space.ensures c.as_slice-2.ensures c.in_err-digits.ensures same)

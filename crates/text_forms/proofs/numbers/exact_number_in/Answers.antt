-- A word that is a number's one spelling is read as that number, and no zero leads in it.
use Rattle.std.proofs.Common.{◌≡◌, ◌∙◌, ap, sym, arith}
use Rattle.text_forms.specs.Numbers.{is_padded, number_in}
use Rattle.text_forms.proofs.DecimalLemmas.{decimal-not_padded, decimal-read, spells-decimal}
use Rattle.text_forms.proofs.numbers.exact_number_in.Goals as goal

pub returns-in_err-number : goal.returns-in_err-number
returns-in_err-number c = rw c.from_residual.ensures (λ number few is.
    let read = ap number_in is ∙ decimal-read number (omega (arith, few)) in
    let none = c.in_err-number.ensures in cc)

pub returns-then-is_padded : goal.returns-then-is_padded
returns-then-is_padded c = λ number few is.
    decimal-not_padded number (omega (arith, few)) (ap is_padded (sym is) ∙ sym (c.if-is_padded.ensures))

pub returns-then-number-limit : goal.returns-then-number-limit
returns-then-number-limit c = λ number few is.
    let read = ap number_in is ∙ decimal-read number (omega (arith, few)) in
    let some = c.in_ok-number.ensures in
    let same : c.in_ok-number.number ≡ number = cc in
    omega (arith, few, same)

pub returns-else-number-limit : goal.returns-else-number-limit
returns-else-number-limit c =
    (omega arith, spells-decimal c.args.word.now c.in_ok-number.number (sym c.in_ok-number.ensures) (sym c.if-is_padded.ensures))

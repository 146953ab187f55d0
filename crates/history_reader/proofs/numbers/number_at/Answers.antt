use Rattle.std.proofs.Common.{◌≡◌, ◌<◌, ◌^◌, ◌∷◌, [], sym, ◌∙◌, arith}
use Rattle.std.proofs.lemmas.Fmt.{decimal_injective}
use Rattle.history_reader.proofs.Parts.{number_parts, taken_off}
use Rattle.history_reader.proofs.numbers.number_at.Goals as goal

pub returns-in_err-number : goal.returns-in_err-number
returns-in_err-number c =
    let text : c.args.text.now ≡ 32 ∷ c.in_ok-words.words.now =
    taken_off c.args.text.now _ (32 ∷ []) c.in_ok-words.words.now c.as_slice.ensures c.in_ok-words.ensures.cases.0
    c.in_ok-words.ensures.cases.1 in
    rw c.from_residual-in_err-number.ensures (λ number behind begins.
    c.in_err-number.ensures number (omega (arith, c.from.ensures, begins.right))
    (number_parts c.in_ok-words.words.now c.front.result.0.now c.front.result.1.now number behind
    c.front.ensures.whole c.front.ensures.front c.front.ensures.rest
    (omega (arith, c.ranges.most.fits, begins.right)) begins.space (sym text ∙ begins.text_is)).0)

pub returns-then-number-least : goal.returns-then-number-least
returns-then-number-least c number behind begins =
    let text : c.args.text.now ≡ 32 ∷ c.in_ok-words.words.now =
    taken_off c.args.text.now _ (32 ∷ []) c.in_ok-words.words.now c.as_slice.ensures c.in_ok-words.ensures.cases.0
    c.in_ok-words.ensures.cases.1 in
    let small : number < 2 ^ 64 = omega (arith, c.ranges.most.fits, begins.right) in
    let word = (number_parts c.in_ok-words.words.now c.front.result.0.now c.front.result.1.now number behind
    c.front.ensures.whole c.front.ensures.front c.front.ensures.rest small begins.space
    (sym text ∙ begins.text_is)).0 in
    let same : c.in_ok-number.field-0 ≡ number =
    decimal_injective c.in_ok-number.field-0 number
    (omega (arith, c.in_ok-number.ensures, c.from.ensures, c.ranges.most.fits)) small
    (sym c.in_ok-number.ensures.1 ∙ word) in
    omega (arith, same, begins.right, c.if-number-least.true)
